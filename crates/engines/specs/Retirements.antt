-- What an engine does up to its next retirement.
-- Assumes nothing.
use Rattle.std.specs.Prelude.{ℕ, suc, Some, None, Option}
use Rattle.machine.specs.declared.record.Record.{Record}

module _ {E : Type 0} (advances : E → Option Record → E → Type 0) where
  -- at most so many advances, up to the first record
  pub data AdvancesTo : (most : ℕ) → E → Option Record → E → Type 0 where
    spent : {e : E} → AdvancesTo 0 e None e
    record_made : {most : ℕ} {e e' : E} (r : Record) → advances e (Some r) e' → AdvancesTo (suc most) e (Some r) e'
    idle : {most : ℕ} {answer : Option Record} {e f e' : E} → advances e None f → AdvancesTo most f answer e'
        → AdvancesTo (suc most) e answer e'
