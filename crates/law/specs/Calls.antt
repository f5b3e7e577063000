-- The calls on a running core: the core's part by a definition, the unit's by what the meaning of a unit says.
-- Assumes nothing.
use Rattle.std.specs.Prelude.{◌≡◌, ℕ, suc, Bool, true, false, Some, None, Ok, Err, Option, Result}
use Rattle.refusal.specs.declared.IssueFault.{IssueFault}
use Rattle.refusal.specs.declared.NoneGoes.{NoneGoes}
use Rattle.refusal.specs.declared.RetireFault.{RetireFault}
use Rattle.refusal.specs.declared.RetireFault.TheVariants.{Empty, HeadWaits}
use Rattle.machine.specs.declared.judgement.Judgement.{Judgement}
use Rattle.machine.specs.declared.record.Record.{Record}
use Rattle.units.specs.declared.job.Job.{Job}
use Rattle.units.specs.Meaning.{UnitModel}
use Rattle.units.specs.Calls.{TakeCall, StepCall, ClearCall}
use Rattle.tables.specs.declared.entry.Entry.{Entry}
use Rattle.tables.specs.Buffers.{oldest_entry}
use Rattle.tables.specs.Waiting.{goes}
use Rattle.law.specs.declared.state.Running.{Running}
use Rattle.law.specs.declared.state.Stopped.{Stopped}
use Rattle.law.specs.Steps.{begun, issue_answer, issued, sent, completed_by, complete_answer, diverts, stepped, retired_on, flushed, lined}

abbrev pub dispatch_answer : Option Job → Result ℕ NoneGoes
dispatch_answer None = Err (record {})
dispatch_answer (Some j) = Ok j.tag

-- a cycle answers what its retirement answered, unless that was refused
abbrev pub record_of : Result Record RetireFault → Option Record
record_of (Ok r) = Some r
record_of (Err f) = None

module _ {A : Type 0} (m : UnitModel A) where
  -- start clears the unit, and learns from its room what it serves
  pub record StartCall (s : Stopped A) (k : Running A) : Type 0 where
    pub unit : ClearCall m s.unit k.unit
    pub core : k.core ≡ begun s.machine s.line (m.room k.unit)

  -- stop discards what is in flight, and keeps the rest
  pub record StopCall (k : Running A) (s : Stopped A) : Type 0 where
    pub unit : ClearCall m k.unit s.unit
    pub machine : s.machine ≡ k.core.machine
    pub line : s.line ≡ k.core.line

  -- issue ----------------------------------------------------------------------

  abbrev pub IssueDoes : Result ℕ IssueFault → Running A → Running A → Type 0
  IssueDoes (Ok t) k k' = (k'.core ≡ issued k.core) × (k'.unit ≡ k.unit)
  IssueDoes (Err f) k k' = k' ≡ k

  pub record IssueCall (k : Running A) (answer : Result ℕ IssueFault) (k' : Running A) : Type 0 where
    pub answers : answer ≡ issue_answer k.core
    pub does : IssueDoes (issue_answer k.core) k k'

  -- dispatch -------------------------------------------------------------------

  abbrev pub going : Running A → Option Job
  going k = goes (m.room k.unit) k.core.buffer.head k.core.stations.places

  abbrev pub DispatchDoes : Option Job → Running A → Running A → Type 0
  DispatchDoes None k k' = k' ≡ k
  DispatchDoes (Some j) k k' = (k'.core ≡ sent j k.core) × TakeCall m k.unit j k'.unit

  pub record DispatchCall (k : Running A) (answer : Result ℕ NoneGoes) (k' : Running A) : Type 0 where
    pub answers : answer ≡ dispatch_answer (going k)
    pub does : DispatchDoes (going k) k k'

  -- complete -------------------------------------------------------------------

  -- the unit steps, accepted, whether it offers or not
  pub record CompleteCall (k : Running A) (answer : Option ℕ) (k' : Running A) : Type 0 where
    pub answers : answer ≡ complete_answer (m.offer k.unit)
    pub core : k'.core ≡ completed_by (m.offer k.unit) k.core
    pub unit : StepCall m k.unit true k'.unit

  -- retire ---------------------------------------------------------------------

  -- first whether the retirement diverts
  abbrev pub RetireMoves : Bool → Entry → Judgement → Running A → Running A → Type 0
  RetireMoves true e j k k' = (k'.core ≡ flushed k.core e j) × ClearCall m k.unit k'.unit
  RetireMoves false e j k k' = (k'.core ≡ retired_on k.core e j) × (k'.unit ≡ k.unit)

  -- of the result of the oldest entry
  abbrev pub RetiresEntry : Entry → Option Judgement → Running A → Result Record RetireFault → Running A → Type 0
  RetiresEntry e None k answer k' = (answer ≡ Err HeadWaits) × (k' ≡ k)
  RetiresEntry e (Some j) k answer k' =
      (answer ≡ Ok (stepped k.core e j).1) × RetireMoves (diverts k.core.line j k.core.machine) e j k k'

  abbrev pub Retires : Option Entry → Running A → Result Record RetireFault → Running A → Type 0
  Retires None k answer k' = (answer ≡ Err Empty) × (k' ≡ k)
  Retires (Some e) k answer k' = RetiresEntry e e.result k answer k'

  abbrev pub RetireCall : Running A → Result Record RetireFault → Running A → Type 0
  RetireCall k answer k' = Retires (oldest_entry k.core.buffer) k answer k'

  -- cycle ----------------------------------------------------------------------

  -- retire, complete, dispatch, issue, once each; inner refusals are no refusal of the cycle
  pub record CycleCall (k : Running A) (answer : Option Record) (k' : Running A) : Type 0 where
    -- what each answers
    pub retirement : Result Record RetireFault
    pub completion : Option ℕ
    pub sending : Result ℕ NoneGoes
    pub issuing : Result ℕ IssueFault
    -- the core between them
    pub retired : Running A
    pub completed : Running A
    pub dispatched : Running A
    pub retires : RetireCall k retirement retired
    pub completes : CompleteCall retired completion completed
    pub dispatches : DispatchCall completed sending dispatched
    pub issues : IssueCall dispatched issuing k'
    pub answers : answer ≡ record_of retirement

  -- run ------------------------------------------------------------------------

  -- cycles until there are the retirements wanted, or the budget is spent
  pub data RunCall : (wanted budget cycles retirements : ℕ) → Running A → Running A → Type 0 where
    done : {budget : ℕ} {k : Running A} → RunCall 0 budget 0 0 k k
    spent : {wanted : ℕ} {k : Running A} → RunCall wanted 0 0 0 k k
    idle : {wanted budget cycles retirements : ℕ} {k l k' : Running A} → CycleCall k None l
        → RunCall (suc wanted) budget cycles retirements l k'
        → RunCall (suc wanted) (suc budget) (suc cycles) retirements k k'
    retires : {wanted budget cycles retirements : ℕ} {k l k' : Running A} (r : Record) → CycleCall k (Some r) l
        → RunCall wanted budget cycles retirements l k'
        → RunCall (suc wanted) (suc budget) (suc cycles) (suc retirements) k k'

  -- the line -------------------------------------------------------------------

  pub record LineCall (up : Bool) (k k' : Running A) : Type 0 where
    pub core : k'.core ≡ lined up k.core
    pub unit : k'.unit ≡ k.unit
