-- The past of a running core: its start and the calls since, refused ones too.
-- Assumes nothing.
use Rattle.std.specs.Prelude.{◌≡◌, ℕ, Bool, true, false, List, [], ◌∷◌, length, Option, Result}
use Rattle.refusal.specs.declared.IssueFault.{IssueFault}
use Rattle.refusal.specs.declared.NoneGoes.{NoneGoes}
use Rattle.refusal.specs.declared.RetireFault.{RetireFault}
use Rattle.machine.specs.declared.record.Record.{Record}
use Rattle.machine.specs.declared.state.Machine.{Machine}
use Rattle.units.specs.Meaning.{UnitModel}
use Rattle.law.specs.declared.state.Running.{Running}
use Rattle.law.specs.declared.state.Stopped.{Stopped}
use Rattle.law.specs.Calls.{StartCall, IssueCall, DispatchCall, CompleteCall, RetireCall, CycleCall, RunCall, LineCall}

-- a call with its answer
pub data Event : Type 0 where
  issue : Result ℕ IssueFault → Event
  dispatch : Result ℕ NoneGoes → Event
  complete : Option ℕ → Event
  retire : Result Record RetireFault → Event
  cycle : Option Record → Event
  run : (wanted budget cycles retirements : ℕ) → Event
  raise : Event
  drop : Event

-- a machine as the type says: it has 32 registers
abbrev pub Sized : Machine → Type 0
Sized s = length s.registers ≡ 32

-- the event of a call that sets the line
abbrev pub line_set : Bool → Event
line_set true = raise
line_set false = drop

module _ {A : Type 0} (m : UnitModel A) where
  -- what a call does, by its event
  abbrev pub EventCall : Event → Running A → Running A → Type 0
  EventCall (issue a) k k' = IssueCall m k a k'
  EventCall (dispatch a) k k' = DispatchCall m k a k'
  EventCall (complete a) k k' = CompleteCall m k a k'
  EventCall (retire a) k k' = RetireCall m k a k'
  EventCall (cycle a) k k' = CycleCall m k a k'
  EventCall (run wanted budget cycles retirements) k k' = RunCall m wanted budget cycles retirements k k'
  EventCall raise k k' = LineCall m true k k'
  EventCall drop k k' = LineCall m false k k'

  -- the calls that led from a stopped core to a running one, newest first
  pub data Past (s : Stopped A) : List Event → Running A → Type 0 where
    started : {k : Running A} → Sized s.machine → StartCall m s k → Past s [] k
    called : {e : Event} {es : List Event} {k k' : Running A} → Past s es k → EventCall e k k' → Past s (e ∷ es) k'
