-- Advances up to the next record, each under the line: of the machine one step, of the core one setting of the line and then cycles.
-- Assumes nothing.
use Rattle.std.proofs.Common.{◌≡◌, ◌≤◌, ℕ, zero, suc, Bool, true, false, Some, None, Ok, Err, Option, Result, refl, sym, ◌∙◌, ap, subst, arith}
use Rattle.refusal.specs.declared.IssueFault.{IssueFault}
use Rattle.refusal.specs.declared.RetireFault.{RetireFault}
use Rattle.machine.specs.declared.judgement.Judgement.{Judgement}
use Rattle.machine.specs.declared.record.Record.{Record}
use Rattle.machine.specs.declared.state.Machine.{Machine}
use Rattle.units.specs.declared.job.Job.{Job}
use Rattle.units.specs.declared.job.Offer.{Offer}
use Rattle.units.specs.Meaning.{UnitModel}
use Rattle.tables.specs.declared.entry.Entry.{Entry}
use Rattle.tables.specs.Buffers.{oldest_entry}
use Rattle.law.specs.declared.state.Core.{Core}
use Rattle.law.specs.declared.state.Running.{Running}
use Rattle.law.specs.Steps.{issue_answer, completed_by, diverts, lined}
use Rattle.law.specs.Calls.{IssueDoes, going, DispatchDoes, RetireMoves, RetiresEntry, Retires, LineCall, CycleCall}
use Rattle.engines.specs.Retirements.{AdvancesTo, spent, record_made, idle}
use Rattle.engines.specs.Engines.{MachineSteps, LinedCycle, CyclesTo, LinedCycles}

-- the machine's first step answers
pub machine_retires : (most : ℕ) (line : Bool) (m : Machine) (a : Option Record) (m' : Machine) → 1 ≤ most
    → AdvancesTo (MachineSteps line) most m a m' → MachineSteps line m a m'
machine_retires zero line m a m' some spent = absurd (omega arith)
machine_retires (suc most) line m a m' some (record_made r once) = once
machine_retires (suc most) line m a m' some (idle once rest) = cc

module _ {A : Type 0} (m : UnitModel A) where
  -- a cycle leaves the line as it is ------------------------------------------------

  complete_keeps : (o : Option Offer) (c : Core) → (completed_by o c).line ≡ c.line
  complete_keeps None c = refl
  complete_keeps (Some o) c = refl

  issue_keeps : (a : Result ℕ IssueFault) (k k' : Running A) → IssueDoes m a k k' → k'.core.line ≡ k.core.line
  issue_keeps (Ok t) k k' does = ap (λ (c : Core). c.line) does.0
  issue_keeps (Err f) k k' does = ap (λ (x : Running A). x.core.line) does

  dispatch_keeps : (j : Option Job) (k k' : Running A) → DispatchDoes m j k k' → k'.core.line ≡ k.core.line
  dispatch_keeps None k k' does = ap (λ (x : Running A). x.core.line) does
  dispatch_keeps (Some j) k k' does = ap (λ (c : Core). c.line) does.0

  moves_keep : (b : Bool) (e : Entry) (j : Judgement) (k k' : Running A) → RetireMoves m b e j k k' → k'.core.line ≡ k.core.line
  moves_keep true e j k k' moves = ap (λ (c : Core). c.line) moves.0
  moves_keep false e j k k' moves = ap (λ (c : Core). c.line) moves.0

  entry_keeps : (e : Entry) (r : Option Judgement) (k : Running A) (a : Result Record RetireFault) (k' : Running A)
      → RetiresEntry m e r k a k' → k'.core.line ≡ k.core.line
  entry_keeps e None k a k' does = ap (λ (x : Running A). x.core.line) does.1
  entry_keeps e (Some j) k a k' does = moves_keep (diverts k.core.line j k.core.machine) e j k k' does.1

  retire_keeps : (e : Option Entry) (k : Running A) (a : Result Record RetireFault) (k' : Running A)
      → Retires m e k a k' → k'.core.line ≡ k.core.line
  retire_keeps None k a k' does = ap (λ (x : Running A). x.core.line) does.1
  retire_keeps (Some e) k a k' does = entry_keeps e e.result k a k' does

  cycle_keeps : (k : Running A) (a : Option Record) (k' : Running A) → CycleCall m k a k' → k'.core.line ≡ k.core.line
  cycle_keeps k a k' c =
      issue_keeps (issue_answer c.dispatched.core) c.dispatched k' c.issues.does
      ∙ dispatch_keeps (going m c.completed) c.completed c.dispatched c.dispatches.does
      ∙ ap (λ (x : Core). x.line) c.completes.core
      ∙ complete_keeps (m.offer c.retired.unit) c.retired.core
      ∙ retire_keeps (oldest_entry k.core.buffer) k c.retirement c.retired c.retires

  -- a line that is set again -----------------------------------------------------------

  set_again : (line : Bool) (k l : Running A) → k.core.line ≡ line → LineCall m line k l → l ≡ k
  set_again line k l is call =
      ap (λ (c : Core). record { core = c; unit = l.unit }) (call.core ∙ ap (λ (b : Bool). lined b k.core) (sym is))
      ∙ ap (λ (u : A). record { core = k.core; unit = u }) call.unit

  module _ {E : Type 0} (state : E → Running A) where
    -- the cycles after the line was set once
    cycles_under : (most : ℕ) (line : Bool) (e : E) (a : Option Record) (e' : E) → (state e).core.line ≡ line
        → AdvancesTo (λ k b k'. LinedCycle m line (state k) b (state k')) most e a e' → CyclesTo m most (state e) a (state e')
    cycles_under zero line e a e' is spent = spent
    cycles_under (suc most) line e a e' is (record_made r c) =
        record_made r (subst (λ (x : Running A). CycleCall m x (Some r) (state e')) (set_again line (state e) c.lined is c.sets) c.cycles)
    cycles_under (suc most) line e a e' is (idle {f = f} c rest) =
        idle
        (subst (λ (x : Running A). CycleCall m x None (state f)) (set_again line (state e) c.lined is c.sets) c.cycles)
        (cycles_under most line f a e' (cycle_keeps c.lined None (state f) c.cycles ∙ ap (λ (x : Core). x.line) c.sets.core) rest)

    pub core_retires : (most : ℕ) (line : Bool) (e : E) (a : Option Record) (e' : E) → 1 ≤ most
        → AdvancesTo (λ k b k'. LinedCycle m line (state k) b (state k')) most e a e'
        → LinedCycles m most line (state e) a (state e')
    core_retires zero line e a e' some spent = absurd (omega arith)
    core_retires (suc most) line e a e' some (record_made r c) = record { lined = c.lined; sets = c.sets; cycles = record_made r c.cycles }
    core_retires (suc most) line e a e' some (idle {f = f} c rest) =
        record {
          lined = c.lined;
          sets = c.sets;
          cycles = idle c.cycles (cycles_under most line f a e' (cycle_keeps c.lined None (state f) c.cycles ∙ ap (λ (x : Core). x.line) c.sets.core) rest);
        }
