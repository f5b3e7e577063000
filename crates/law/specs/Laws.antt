-- The law of every past, in terms of calls, answers and the sequential machine.
-- Assumes nothing.
use Rattle.std.specs.Prelude.{◌≡◌, ℕ, zero, suc, ◌+◌, ◌*◌, ◌<◌, ◌≤◌, max, Bool, true, false, List, [], ◌∷◌, ◌++◌, Some, None, Ok, Err}
use Rattle.isa.specs.declared.operation.Class.{Class}
use Rattle.machine.specs.declared.state.Machine.{Machine}
use Rattle.machine.specs.Step.{step}
use Rattle.units.specs.Meaning.{UnitModel}
use Rattle.law.specs.declared.state.Running.{Running}
use Rattle.law.specs.declared.state.Stopped.{Stopped}
use Rattle.law.specs.Pasts.{Event, issue, dispatch, complete, retire, cycle, run, raise, drop, Past}

-- the sequential machine, fed a past -------------------------------------------

-- the machine with its interrupt line
pub record Fed : Type 0 where
  pub machine : Machine
  pub line : Bool

-- how many retirements an event reports
abbrev pub reports : Event → ℕ
reports (issue a) = 0
reports (dispatch a) = 0
reports (complete a) = 0
reports (retire (Ok r)) = 1
reports (retire (Err f)) = 0
reports (cycle (Some r)) = 1
reports (cycle None) = 0
reports (run wanted budget cycles retirements) = retirements
reports raise = 0
reports drop = 0

-- raise and drop set the line
abbrev pub line_after : Event → Bool → Bool
line_after (issue a) l = l
line_after (dispatch a) l = l
line_after (complete a) l = l
line_after (retire a) l = l
line_after (cycle a) l = l
line_after (run wanted budget cycles retirements) l = l
line_after raise l = true
line_after drop l = false

abbrev pub steps_of : (Class → Bool) → ℕ → Fed → Fed
steps_of served zero f = f
steps_of served (suc n) f = steps_of served n (record { machine = (step served f.line f.machine).0; line = f.line })

-- an event makes as many steps as it reports retirements, and nothing else of it reaches the machine
abbrev pub feed : (Class → Bool) → Event → Fed → Fed
feed served e f = steps_of served (reports e) (record { machine = f.machine; line = line_after e f.line })

abbrev pub fed : (Class → Bool) → Fed → List Event → Fed
fed served f [] = f
fed served f (e ∷ es) = feed served e (fed served f es)

-- the records answered -----------------------------------------------------------

-- a record that an event answers is that of the machine's next step
abbrev pub Truthful : (Class → Bool) → Fed → Event → Type 0
Truthful served f (issue a) = Unit {0}
Truthful served f (dispatch a) = Unit {0}
Truthful served f (complete a) = Unit {0}
Truthful served f (retire (Ok r)) = r ≡ (step served f.line f.machine).1
Truthful served f (retire (Err e)) = Unit {0}
Truthful served f (cycle (Some r)) = r ≡ (step served f.line f.machine).1
Truthful served f (cycle None) = Unit {0}
Truthful served f (run wanted budget cycles retirements) = Unit {0}
Truthful served f raise = Unit {0}
Truthful served f drop = Unit {0}

abbrev pub AllTruthful : (Class → Bool) → Fed → List Event → Type 0
AllTruthful served f [] = Unit {0}
AllTruthful served f (e ∷ es) = Truthful served (fed served f es) e × AllTruthful served f es

-- the longest wait ---------------------------------------------------------------

-- over a unit whose longest stay is d
abbrev pub wait : ℕ → ℕ
wait d = max (d + 3) (2 * d + 1)

abbrev pub cycle_calls : List Event → ℕ
cycle_calls [] = 0
cycle_calls (issue a ∷ es) = cycle_calls es
cycle_calls (dispatch a ∷ es) = cycle_calls es
cycle_calls (complete a ∷ es) = cycle_calls es
cycle_calls (retire a ∷ es) = cycle_calls es
cycle_calls (cycle a ∷ es) = cycle_calls es + 1
cycle_calls (run wanted budget cycles retirements ∷ es) = cycle_calls es
cycle_calls (raise ∷ es) = cycle_calls es
cycle_calls (drop ∷ es) = cycle_calls es

abbrev pub reported : List Event → ℕ
reported [] = 0
reported (e ∷ es) = reported es + reports e

-- a run whose budget allows the longest wait for each retirement makes them all, in no more cycles than that
abbrev pub RunKept : ℕ → Event → Type 0
RunKept d (issue a) = Unit {0}
RunKept d (dispatch a) = Unit {0}
RunKept d (complete a) = Unit {0}
RunKept d (retire a) = Unit {0}
RunKept d (cycle a) = Unit {0}
RunKept d (run wanted budget cycles retirements) =
    wanted * wait d ≤ budget → (retirements ≡ wanted) × (cycles ≤ wanted * wait d)
RunKept d raise = Unit {0}
RunKept d drop = Unit {0}

abbrev pub AllRunsKept : ℕ → List Event → Type 0
AllRunsKept d [] = Unit {0}
AllRunsKept d (e ∷ es) = RunKept d e × AllRunsKept d es

-- the law --------------------------------------------------------------------------

module _ {A : Type 0} (m : UnitModel A) where
  abbrev pub at_start : Stopped A → Fed
  at_start s = record { machine = s.machine; line = s.line }

  pub record Law (s : Stopped A) (es : List Event) (k : Running A) : Type 0 where
    -- registers, pc and trap state are those of the machine that is fed the past
    pub same_state : record { machine = k.core.machine; line = k.core.line } ≡ fed (m.serves s.unit) (at_start s) es
    -- every record answered is the machine's record of that very step
    pub same_records : AllTruthful (m.serves s.unit) (at_start s) es
    -- in a stretch with as many cycle calls as the longest wait, whatever else is called between them, some call reports a retirement
    pub progress : (later stretch earlier : List Event) → es ≡ later ++ (stretch ++ earlier)
        → wait (m.stay s.unit) ≤ cycle_calls stretch → 0 < reported stretch
    -- runs make the retirements wanted
    pub runs : AllRunsKept (m.stay s.unit) es

-- over every unit: of every past
abbrev pub LawOfEveryPast : {A : Type 0} → UnitModel A → Type 0
LawOfEveryPast {A} m = (s : Stopped A) (es : List Event) (k : Running A) → Past m s es k → Law m s es k

-- of one call: it extends every past of the core at its entry, and the law holds of the past at its exit
abbrev pub Extends : {A : Type 0} → UnitModel A → Running A → Event → Running A → Type 0
Extends {A} m k e k' =
    (s : Stopped A) (es : List Event) → Past m s es k → Past m s (e ∷ es) k' × Law m s (e ∷ es) k'

-- of start: a past begins
abbrev pub Begins : {A : Type 0} → UnitModel A → Stopped A → Running A → Type 0
Begins m s k = Past m s [] k × Law m s [] k
