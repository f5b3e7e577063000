-- The two engines: the sequential machine, and the core over its unit.
-- Assumes nothing.
use Rattle.std.specs.Prelude.{◌≡◌, ℕ, Bool, List, length, Some, Err, Option}
use Rattle.machine.specs.declared.record.Record.{Record}
use Rattle.machine.specs.declared.state.Machine.{Machine}
use Rattle.machine.specs.Classes.{serves, every_class}
use Rattle.machine.specs.States.{load_answer}
use Rattle.machine.specs.Step.{step}
use Rattle.units.specs.Meaning.{UnitModel}
use Rattle.law.specs.declared.state.Running.{Running}
use Rattle.law.specs.declared.state.Stopped.{Stopped}
use Rattle.law.specs.Calls.{LineCall, CycleCall, StopCall, StartCall}
use Rattle.scheduler.specs.Stops.{loaded}
use Rattle.refusal.specs.declared.LoadFault.{LoadFault}
use Rattle.report.specs.declared.stops.Stop.{Stop}
use Rattle.report.specs.LoadLines.{fault_line}
use Rattle.command.specs.Saying.{Says}
use Rattle.engines.specs.Retirements.{AdvancesTo}

-- one step of the machine, with every class served, under the line
pub record MachineSteps (line : Bool) (m : Machine) (answer : Option Record) (m' : Machine) : Type 0 where
  pub answers : answer ≡ Some (step (serves every_class) line m).1
  pub state : m' ≡ (step (serves every_class) line m).0

-- what is said of a program that is not loaded
pub record Refuses (words : List ℕ) (pc vector : ℕ) (stop : Stop) : Type 0 where
  pub fault : LoadFault
  pub refused : load_answer words pc vector ≡ Err fault
  pub says : Says (Some (fault_line fault (length words) pc vector)) stop

module _ {A : Type 0} (m : UnitModel A) where
  -- a cycle of the core under a line: the line is as asked, and then one cycle is made
  pub record LinedCycle (line : Bool) (k : Running A) (answer : Option Record) (k' : Running A) : Type 0 where
    -- the core between the two
    pub lined : Running A
    pub sets : LineCall m line k lined
    pub cycles : CycleCall m lined answer k'

  -- at most so many cycles, up to the first record
  abbrev pub CyclesTo : (most : ℕ) → Running A → Option Record → Running A → Type 0
  CyclesTo most k answer k' = AdvancesTo (CycleCall m) most k answer k'

  -- What the core does for one retirement: the line is as asked, and cycles are made until one answers a record.
  pub record LinedCycles (most : ℕ) (line : Bool) (k : Running A) (answer : Option Record) (k' : Running A) : Type 0 where
    -- the core between the two
    pub lined : Running A
    pub sets : LineCall m line k lined
    pub cycles : CyclesTo most lined answer k'

  -- The core is stopped, takes the program, and is started again.
  pub record Restarts (words : List ℕ) (pc vector : ℕ) (k k' : Running A) : Type 0 where
    pub stopped : Stopped A
    pub stops : StopCall m k stopped
    pub starts : StartCall m (loaded words pc vector stopped) k'
