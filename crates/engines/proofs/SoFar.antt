-- Advances up to the first record: none so far, and what is left to make.
-- Assumes nothing.
use Rattle.std.proofs.Common.{◌≡◌, ℕ, suc, ◌+◌, ◌-◌, ◌<◌, true, false, Some, None, Option, subst, arith}
use Rattle.std.specs.Option.{is_some}
use Rattle.machine.specs.declared.record.Record.{Record}
use Rattle.engines.specs.Retirements.{AdvancesTo, spent, record_made, idle}

module _ {E : Type 0} (advances : E → Option Record → E → Type 0) where
  -- what is made from f on, makes the whole from e on
  pub record SoFar (most done : ℕ) (e f : E) : Type 0 where
    pub whole : (a : Option Record) (e' : E) → AdvancesTo advances (most - done) f a e' → AdvancesTo advances most e a e'

  pub begins : (most : ℕ) (e : E) → SoFar most 0 e e
  begins most e = record { whole = λ a e' rest. subst (λ (n : ℕ). AdvancesTo advances n e a e') (omega arith) rest }

  pub ends : (most done : ℕ) (e f : E) → SoFar most done e f → most - done ≡ 0 → AdvancesTo advances most e None f
  ends most done e f so none = so.whole None f (subst (λ (n : ℕ). AdvancesTo advances n f None f) (omega arith) spent)

  module _ (most done : ℕ) (e f f' : E) (so : SoFar most done e f) (more : done < most) where
    -- one more advance belongs to the whole
    counted : (n : ℕ) → n ≡ most - (done + 1) → suc n ≡ most - done
    counted n eq = omega arith

    pub goes_on : (a : Option Record) → advances f a f' → is_some a ≡ false → SoFar most (done + 1) e f'
    goes_on None once is =
        record {
          whole = λ b e' rest.
              so.whole b e' (subst (λ (n : ℕ). AdvancesTo advances n f b e') (counted (most - (done + 1)) (omega arith)) (idle once rest));
        }
    goes_on (Some r) once is = let impossible : true ≡ false = is in absurd (cc)

    pub makes : (a : Option Record) → advances f a f' → is_some a ≡ true → AdvancesTo advances most e a f'
    makes (Some r) once is =
        so.whole (Some r) f' (subst (λ (n : ℕ). AdvancesTo advances n f (Some r) f') (counted (most - (done + 1)) (omega arith)) (record_made r once))
    makes None once is = let impossible : false ≡ true = is in absurd (cc)
