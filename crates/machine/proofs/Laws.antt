-- The laws of a step and of any number of steps.
-- Assumes nothing.
use Rattle.std.proofs.Common.{◌≡◌, ℕ, ◌%◌, Bool, cond, ◌&&◌, eqb, ◌≢◌, List, [], ◌∷◌, get_or, set, Some, None, Option, sym, refl, subst, inl, inr, arith, get_or-set_other}
use Rattle.std.proofs.lemmas.Bool.{cond_both}
use Rattle.std.proofs.lemmas.Bool.Decides.{nat_tests, eqb_tells}
use Rattle.isa.specs.declared.instruction.Instruction.{Instruction}
use Rattle.isa.specs.declared.operation.Class.{Class}
use Rattle.isa.specs.declared.outcome.Outcome.{Outcome}
use Rattle.isa.specs.declared.outcome.Outcome.TheVariants.{Done, Misaligned}
use Rattle.isa.specs.Classes.{class_of}
use Rattle.execute.specs.Outcomes.{sum, value_of, target_of, departs, landed, worked_out, if_classed}
use Rattle.machine.specs.declared.decode.Decoded.{Decoded}
use Rattle.machine.specs.declared.decode.Decoded.TheVariants.{Trap as AsksTrap, Return as AsksReturn, Work}
use Rattle.machine.specs.declared.judgement.Judgement.{Judgement}
use Rattle.machine.specs.declared.judgement.Judgement.TheVariants.{Trap, Return, Write}
use Rattle.machine.specs.declared.record.Record.{Record}
use Rattle.machine.specs.declared.record.Retirement.TheVariants.{Plain, Trapped, Interrupted}
use Rattle.machine.specs.declared.state.Machine.{Machine}
use Rattle.machine.specs.Decode.{decoded}
use Rattle.machine.specs.States.{register_of, with_register}
use Rattle.machine.specs.Step.{judged_outcome, judged, judgement_of, fetched, word_or0, entered, returned, written, recorded, settled, applied, step, steps}
use Rattle.machine.specs.Causes.{external_interrupt}
use Rattle.machine.specs.Laws.{TrapLeaves, Aligned, StepLaw}

-- a step by its cases --------------------------------------------------------

by_eqb : {X : Type 0} (P : X → Type 0) (a b : ℕ) (x y : X) → (a ≡ b → P x) → ((a ≡ b → ⊥) → P y) → P (cond (eqb a b) x y)
by_eqb P a b x y h k =
    elim (eqb_tells a b) [
      | inl e ↦ subst (λ (t : Bool). P (cond t x y)) (sym e.0) (h e.1)
      | inr e ↦ subst (λ (t : Bool). P (cond t x y)) (sym e.0) (k e.1)
    ]

-- an instruction that did not trap is interrupted or not
by_line : (P : Machine × Record → Type 0) (line : Bool) (pc w d v : ℕ) (m : Machine)
    → P (recorded pc w Interrupted d v (entered m.pc external_interrupt m)) → P (recorded pc w Plain d v m)
    → P (settled line pc w d v m)
by_line P line pc w d v m h k =
    cond_both (line && m.trap.mie) (recorded pc w Interrupted d v (entered m.pc external_interrupt m)) (recorded pc w Plain d v m) P (λ _. h) (λ _. k)

-- the record and the registers ------------------------------------------------

begins : (line : Bool) (w : ℕ) (j : Judgement) (m : Machine) → (applied line w j m).1.pc ≡ m.pc
begins line w (Trap c) m = refl
begins line w Return m = by_line (λ x. x.1.pc ≡ m.pc) line m.pc w 0 0 (returned m) refl refl
begins line w (Write rd v n) m =
    by_line (λ x. x.1.pc ≡ m.pc) line m.pc w rd (cond (eqb rd 0) 0 v) (written rd v n m) refl refl

abbrev Ends : Machine × Record → Type 0
Ends x = x.1.next ≡ x.0.pc

ends : (line : Bool) (w : ℕ) (j : Judgement) (m : Machine) → Ends (applied line w j m)
ends line w (Trap c) m = refl
ends line w Return m = by_line Ends line m.pc w 0 0 (returned m) refl refl
ends line w (Write rd v n) m = by_line Ends line m.pc w rd (cond (eqb rd 0) 0 v) (written rd v n m) refl refl

abbrev IfTrapped : Machine → Machine × Record → Type 0
IfTrapped m x = x.1.outcome ≡ Trapped → TrapLeaves m x.1 x.0

trapped : (line : Bool) (w : ℕ) (j : Judgement) (m : Machine) → IfTrapped m (applied line w j m)
trapped line w (Trap c) m = λ e. record { registers = refl; mepc = refl; mcause = refl; handler = refl }
trapped line w Return m =
    by_line (IfTrapped m) line m.pc w 0 0 (returned m) (λ e. absurd cc) (λ e. absurd cc)
trapped line w (Write rd v n) m =
    by_line (IfTrapped m) line m.pc w rd (cond (eqb rd 0) 0 v) (written rd v n m) (λ e. absurd cc) (λ e. absurd cc)

-- with register 0 as destination the value does not matter
no_write_at_0 : (rd v : ℕ) (rs : List ℕ) → with_register rd v rs ≡ with_register rd (cond (eqb rd 0) 0 v) rs
no_write_at_0 rd v rs = grind (arith, nat_tests)

abbrev IfNotTrapped : Machine → Machine × Record → Type 0
IfNotTrapped m x =
    (x.1.outcome ≡ Trapped → ⊥) → x.0.registers ≡ with_register x.1.destination x.1.value m.registers

changes : (line : Bool) (w : ℕ) (j : Judgement) (m : Machine) → IfNotTrapped m (applied line w j m)
changes line w (Trap c) m = λ h. absurd (h refl)
changes line w Return m = by_line (IfNotTrapped m) line m.pc w 0 0 (returned m) (λ h. refl) (λ h. refl)
changes line w (Write rd v n) m =
    by_line (IfNotTrapped m) line m.pc w rd (cond (eqb rd 0) 0 v) (written rd v n m)
    (λ h. no_write_at_0 rd v m.registers)
    (λ h. no_write_at_0 rd v m.registers)

-- register 0 ------------------------------------------------------------------

abbrev Zero : Machine × Record → Type 0
Zero x = register_of x.0 0 ≡ 0

zero_kept : (rd v : ℕ) (rs : List ℕ) → get_or rs 0 0 ≡ 0 → get_or (with_register rd v rs) 0 0 ≡ 0
zero_kept rd v rs h =
    by_eqb (λ xs. get_or xs 0 0 ≡ 0) rd 0 rs (set rs rd v) (λ e. h)
    (λ ne. let other : 0 ≢ rd = λ e. ne (sym e) in rw get_or-set_other h)

zero-once : (line : Bool) (w : ℕ) (j : Judgement) (m : Machine) → register_of m 0 ≡ 0 → Zero (applied line w j m)
zero-once line w (Trap c) m h = h
zero-once line w Return m h = by_line Zero line m.pc w 0 0 (returned m) h h
zero-once line w (Write rd v n) m h =
    let k = zero_kept rd v m.registers h in
    by_line Zero line m.pc w rd (cond (eqb rd 0) 0 v) (written rd v n m) k k

pub zero_always : (served : Class → Bool) (lines : List Bool) (m : Machine) → register_of m 0 ≡ 0 → register_of (steps served lines m) 0 ≡ 0
zero_always served [] m h = h
zero_always served (line ∷ lines) m h =
    zero_always served lines (step served line m).0
    (zero-once line (word_or0 (fetched m)) (judgement_of served m) m h)

-- multiples of 4 ----------------------------------------------------------------

-- where a judgement sends control, if it sends it somewhere new
abbrev Lands : Judgement → Type 0
Lands (Trap c) = Unit {0}
Lands Return = Unit {0}
Lands (Write rd v n) = n % 4 ≡ 0

abbrev LandsOutcome : Outcome → Type 0
LandsOutcome (Done v n) = n % 4 ≡ 0
LandsOutcome Misaligned = Unit {0}

landed-lands : (v t : ℕ) → LandsOutcome (landed v t)
landed-lands v t = by_eqb LandsOutcome (t % 4) 0 (Done v t) Misaligned (λ e. e) (λ ne. tt)

worked-lands : (i : Instruction) (pc a b : ℕ) → pc % 4 ≡ 0 → LandsOutcome (worked_out i pc a b)
worked-lands i pc a b h =
    let o = i.operation in
    let z = i.immediate in
    cond_both (departs o a b) (landed (value_of o z pc a b) (target_of o z pc a)) (Done (value_of o z pc a b) (sum pc 4)) LandsOutcome
    (λ _. landed-lands (value_of o z pc a b) (target_of o z pc a)) (λ _. omega arith)

outcome_lands : (rd : ℕ) (k : Option Class) (o : Outcome) → LandsOutcome o → Lands (judged_outcome rd (if_classed k o))
outcome_lands rd None o h = tt
outcome_lands rd (Some c) (Done v n) h = h
outcome_lands rd (Some c) Misaligned h = tt

judged-lands : (d : Decoded) (m : Machine) → m.pc % 4 ≡ 0 → Lands (judged d m)
judged-lands (AsksTrap c) m h = tt
judged-lands AsksReturn m h = tt
judged-lands (Work c i) m h =
    let a = register_of m i.rs1 in
    let b = register_of m i.rs2 in
    outcome_lands i.rd (class_of i.operation) (worked_out i m.pc a b) (worked-lands i m.pc a b h)

abbrev AlignedAfter : Machine × Record → Type 0
AlignedAfter x = Aligned x.0

aligned-once : (line : Bool) (w : ℕ) (j : Judgement) (m : Machine) → Lands j → Aligned m → AlignedAfter (applied line w j m)
aligned-once line w (Trap c) m l h = record { pc = h.vector; mepc = h.pc; vector = h.vector }
aligned-once line w Return m l h =
    by_line AlignedAfter line m.pc w 0 0 (returned m)
    (record { pc = h.vector; mepc = h.mepc; vector = h.vector })
    (record { pc = h.mepc; mepc = h.mepc; vector = h.vector })
aligned-once line w (Write rd v n) m l h =
    by_line AlignedAfter line m.pc w rd (cond (eqb rd 0) 0 v) (written rd v n m)
    (record { pc = h.vector; mepc = l; vector = h.vector })
    (record { pc = l; mepc = h.mepc; vector = h.vector })

aligned_step : (served : Class → Bool) (line : Bool) (m : Machine) → Aligned m → Aligned (step served line m).0
aligned_step served line m h =
    aligned-once line (word_or0 (fetched m)) (judgement_of served m) m (judged-lands (decoded served (fetched m)) m h.pc) h

pub aligned_always : (served : Class → Bool) (lines : List Bool) (m : Machine) → Aligned m → Aligned (steps served lines m)
aligned_always served [] m h = h
aligned_always served (line ∷ lines) m h = aligned_always served lines (step served line m).0 (aligned_step served line m h)

-- the law of a step -------------------------------------------------------------

pub step_law : (served : Class → Bool) (line : Bool) (m : Machine) → StepLaw served m (step served line m).1 (step served line m).0
step_law served line m =
    let w = word_or0 (fetched m) in
    let j = judgement_of served m in
    record {
      begins = begins line w j m;
      ends = ends line w j m;
      trapped = trapped line w j m;
      changes = changes line w j m;
      zero = λ h lines. zero_always served lines (step served line m).0 (zero-once line w j m h);
      aligned = λ h lines. aligned_always served lines (step served line m).0 (aligned_step served line m h);
    }
