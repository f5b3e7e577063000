-- A call that was read, the answer that is written, and the event of a past that the two are.
-- Assumes nothing.
use Rattle.std.specs.Prelude.{ℕ, Option, Result}
use Rattle.refusal.specs.declared.IssueFault.{IssueFault}
use Rattle.refusal.specs.declared.NoneGoes.{NoneGoes}
use Rattle.refusal.specs.declared.RetireFault.{RetireFault}
use Rattle.machine.specs.declared.record.Record.{Record}
use Rattle.units.specs.Meaning.{UnitModel}
use Rattle.law.specs.declared.state.Running.{Running}
use Rattle.law.specs.Laws.{Extends}
use Rattle.law.specs.Pasts.{Event, issue, dispatch, complete, retire, cycle, run, raise, drop}
use Rattle.past.specs.declared.calls.Call.{Call}
use Rattle.past.specs.declared.calls.Call.TheVariants.{Issue, Dispatch, Complete, Retire, Cycle, Run, Raise, Drop}
use Rattle.past.specs.declared.answers.Answer.{Answer}
use Rattle.past.specs.declared.answers.Answer.TheVariants.{Issue as Issued, Dispatch as Dispatched, Complete as Completed, Retire as Retired, Cycle as Cycled, Run as Ran, Raise as Raised, Drop as Dropped}

pub data Told : Call → Answer → Event → Type 0 where
  issued : (a : Result ℕ IssueFault) → Told Issue (Issued a) (issue a)
  dispatched : (a : Result ℕ NoneGoes) → Told Dispatch (Dispatched a) (dispatch a)
  completed : (a : Option ℕ) → Told Complete (Completed a) (complete a)
  retired : (a : Result Record RetireFault) → Told Retire (Retired a) (retire a)
  cycled : (a : Option Record) → Told Cycle (Cycled a) (cycle a)
  ran : (wanted budget cycles retirements : ℕ) → Told (Run wanted budget) (Ran cycles retirements) (run wanted budget cycles retirements)
  raised : Told Raise Raised raise
  dropped : Told Drop Dropped drop

-- the law holds of every past that the event extends
abbrev pub Answered : {A : Type 0} → UnitModel A → Running A → Call → Answer → Running A → Type 0
Answered m k call answer k' = (e : Event) × (Told call answer e × Extends m k e k')
