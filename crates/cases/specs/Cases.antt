-- Worked cases about words, values, the sequential machine and the longest wait, as one joint statement about the definitions.
-- Assumes nothing.
use Rattle.std.specs.Prelude.{◌≡◌, ℕ, Bool, true, false, List, [], ◌∷◌, ℤ, pos, Some, None, Ok, Err, Option, Result}
use Rattle.isa.specs.declared.instruction.Instruction.{Instruction}
use Rattle.isa.specs.declared.operation.Operation.{Operation}
use Rattle.isa.specs.declared.operation.Operation.TheVariants.{Addi, Mul, Div, Rem}
use Rattle.isa.specs.declared.outcome.Outcome.{Outcome}
use Rattle.isa.specs.declared.outcome.Outcome.TheVariants.{Done}
use Rattle.refusal.specs.declared.IllegalWord.{IllegalWord}
use Rattle.refusal.specs.declared.WriteFault.{WriteFault}
use Rattle.execute.specs.Outcomes.{outcome_of}
use Rattle.words.specs.Words.{read_word, write_word}
use Rattle.refusal.specs.Numbers.{write_fault_number, illegal_word_number}
use Rattle.machine.specs.declared.judgement.Judgement.{Judgement}
use Rattle.machine.specs.declared.judgement.Judgement.TheVariants.{Trap, Return, Write}
use Rattle.machine.specs.declared.record.Record.{Record}
use Rattle.machine.specs.declared.state.Machine.{Machine}
use Rattle.machine.specs.Causes.{cause_number}
use Rattle.machine.specs.Classes.{serves, every_class}
use Rattle.machine.specs.Records.{retirement_number}
use Rattle.machine.specs.States.{fresh, load_state, register_of}
use Rattle.machine.specs.Step.{judged_outcome, step, steps}
use Rattle.law.specs.Laws.{wait}
use Rattle.pipelines.specs.Supplied.{Plain, Multiplier, plain, multiplier}
use Rattle.divider.specs.declared.Divider.{Divider}
use Rattle.divider.specs.Model.{model as divider}
use Rattle.join.specs.declared.Join.{Join}
use Rattle.join.specs.Joined.{join_means}

abbrev instruction : Operation → ℕ → ℕ → ℕ → ℤ → Instruction
instruction o d a b z = record { operation = o; rd = d; rs1 = a; rs2 = b; immediate = z }

-- the number of a refusal, and nothing where there is none
abbrev read_refusal : Result Instruction IllegalWord → Option ℕ
read_refusal (Ok i) = None
read_refusal (Err e) = Some (illegal_word_number e)

abbrev write_refusal : Result ℕ WriteFault → Option ℕ
write_refusal (Ok w) = None
write_refusal (Err e) = Some (write_fault_number e)

-- what a word works out at an address, with 0 in the registers
abbrev of_read : Result Instruction IllegalWord → ℕ → Option Outcome
of_read (Ok i) pc = outcome_of i pc 0 0
of_read (Err e) pc = None

abbrev word_outcome : ℕ → ℕ → Option Outcome
word_outcome w pc = of_read (read_word w) pc

-- the cause of a judgement that traps
abbrev trap_cause : Judgement → Option ℕ
trap_cause (Trap c) = Some (cause_number c)
trap_cause Return = None
trap_cause (Write rd v n) = None

-- a machine with a program at pc 0, its vector 0, all classes served
abbrev loaded : List ℕ → Machine
loaded ws = load_state ws 0 0 fresh

abbrev run : List Bool → List ℕ → Machine
run lines ws = steps (serves every_class) lines (loaded ws)

abbrev next : Bool → Machine → Record
next line m = (step (serves every_class) line m).1

-- ADDI x1, x0, 5; ADDI x2, x0, 7; MUL x3, x1, x2
abbrev product : List ℕ
product = 0x00500093 ∷ 0x00700113 ∷ 0x022081B3 ∷ []

abbrev quiet : List Bool
quiet = false ∷ false ∷ false ∷ []

pub record WorkedCases : Type 0 where
  pub reads_addi : read_word 0x00500093 ≡ Ok (instruction Addi 1 0 0 (pos 5))
  pub reads_mul : read_word 0x022081B3 ≡ Ok (instruction Mul 3 1 2 (pos 0))
  pub refuses_its_neighbour : read_refusal (read_word 0x022091B3) ≡ Some 22
  pub writes_the_largest : write_word (instruction Addi 1 0 0 (pos 2047)) ≡ Ok 0x7FF00093
  pub refuses_one_more : write_refusal (write_word (instruction Addi 1 0 0 (pos 2048))) ≡ Some 21
  pub div_by_0 : outcome_of (instruction Div 3 1 2 (pos 0)) 0 7 0 ≡ Some (Done 0xFFFFFFFF 4)
  pub rem_by_0 : outcome_of (instruction Rem 3 1 2 (pos 0)) 0 7 0 ≡ Some (Done 7 4)
  pub div_overflows : outcome_of (instruction Div 3 1 2 (pos 0)) 0 0x80000000 0xFFFFFFFF ≡ Some (Done 0x80000000 4)
  pub rem_overflows : outcome_of (instruction Rem 3 1 2 (pos 0)) 0 0x80000000 0xFFFFFFFF ≡ Some (Done 0 4)
  pub jumps : word_outcome 0x0080006F 0 ≡ Some (Done 4 8)
  pub jumps_askew : trap_cause (judged_outcome 0 (word_outcome 0x0020006F 0)) ≡ Some 0
  -- the program of three words, and its fourth step
  pub first : register_of (run quiet product) 1 ≡ 5
  pub second : register_of (run quiet product) 2 ≡ 7
  pub third : register_of (run quiet product) 3 ≡ 35
  pub fourth_traps : retirement_number (next false (run quiet product)).outcome ≡ 1
  pub fourth_cause : (next false (run quiet product)).value ≡ 1
  pub fourth_mepc : (run (false ∷ quiet) product).trap.mepc ≡ 12
  -- the same with the line up
  pub interrupted : retirement_number (next true (loaded product)).outcome ≡ 2
  pub interrupted_next : (next true (loaded product)).next ≡ 0
  pub interrupted_mepc : (run (true ∷ []) product).trap.mepc ≡ 4
  pub interrupted_register : register_of (run (true ∷ []) product) 1 ≡ 5
  -- the empty program
  pub empty_traps : retirement_number (next false (loaded [])).outcome ≡ 1
  pub empty_cause : (next false (loaded [])).value ≡ 1
  pub empty_mepc : (run (false ∷ []) []).trap.mepc ≡ 0
  -- the longest wait over a unit, by its longest stay
  pub wait_of_1 : wait 1 ≡ 4
  pub wait_of_132 : wait 132 ≡ 265
  -- over the units that trace runs on
  pub wait_of_the_pile : (u : Join (Join Plain Multiplier) Divider) → wait ((join_means (join_means plain multiplier) divider).stay u) ≡ 133
