-- The signed results of the last step are those of the instructions.
-- Assumes nothing.
use Rattle.std.specs.Prelude.{◌≡◌, ℕ, zero, suc, ◌-◌, ◌/◌, ◌%◌, ◌^◌, ◌<◌, Bool, true, false, cond, not, ◌&&◌, ℤ, pos, negsuc, neg_ℤ, Some, None, Ok, Err, Option, Result, ◌==◌, int_div, int_rem, unsigned_abs, refl}
use Rattle.std.proofs.Math.Nat.{mod-le}
use Rattle.std.proofs.Common.{div-le_self, arith, sym, ap, subst, ◌∙◌}
use Rattle.std.specs.Int.Signed.{non_neg}
use Rattle.std.proofs.lemmas.Bool.{ne_eqb}
use Rattle.std.proofs.lemmas.Int.{ints}
use Rattle.isa.specs.declared.instruction.Instruction.{Instruction}
use Rattle.isa.specs.declared.operation.Operation.{Operation}
use Rattle.isa.specs.declared.operation.Operation.TheVariants.{Lui, Auipc, Jal, Jalr, Beq, Bne, Blt, Bge, Bltu, Bgeu, Addi, Slti, Sltiu, Xori, Ori, Andi, Slli, Srli, Srai, Add, Sub, Sll, Slt, Sltu, Xor, Srl, Sra, Or, And, Mul, Div, Divu, Rem, Remu, Ecall, Ebreak, Mret}
use Rattle.isa.specs.declared.outcome.Outcome.TheVariants.{Done}
use Rattle.isa.specs.Classes.{class_of}
use Rattle.refusal.specs.declared.IllegalWord.{IllegalWord}
use Rattle.words.specs.Words.{read_word}
use Rattle.execute.specs.Outcomes.{residue, quotient_unsigned, remainder_unsigned, sum, outcome_of}
use Rattle.units.specs.declared.job.Job.{Job}
use Rattle.units.specs.Jobs.{class_read, word_class, outcome_read, job_outcome}
use Rattle.units.specs.Meaning.{room_in}
use Rattle.divider.specs.declared.division.Division.{Division}
use Rattle.divider.specs.Divisions.{is_divide, division_of, division_read, division_in}
use Rattle.divider.specs.Restoring.{quotient_at, remainder_at}
use Rattle.divider.specs.Signs.{operand, magnitude, negative, negated, differ, result_of}
use Rattle.divider.specs.RestoringLemmas.{all_bits, not_zero}

-- the bits of a number, and of its negation
residue_of : (s : Bool) (m : ℕ) → m < 2 ^ 32 → residue (cond s (neg_ℤ (pos m)) (pos m)) ≡ negated s m
residue_of true zero h = refl
residue_of true (suc m) h = omega arith
residue_of false m h = omega arith

-- division of integers by that of their magnitudes
quotient_signed : (x y : ℤ) → unsigned_abs x < 2 ^ 32
    → residue (int_div x y) ≡ negated (differ (not (non_neg x)) (not (non_neg y))) (unsigned_abs x / unsigned_abs y)
quotient_signed (pos a) (pos b) h = residue_of false (a / b) (omega (arith, div-le_self a b))
quotient_signed (pos a) (negsuc b) h = residue_of true (a / suc b) (omega (arith, div-le_self a (suc b)))
quotient_signed (negsuc a) (pos b) h = residue_of true (suc a / b) (omega (arith, div-le_self (suc a) b))
quotient_signed (negsuc a) (negsuc b) h = residue_of false (suc a / suc b) (omega (arith, div-le_self (suc a) (suc b)))

remainder_signed : (x y : ℤ) → unsigned_abs x < 2 ^ 32 → residue (int_rem x y) ≡ negated (not (non_neg x)) (unsigned_abs x % unsigned_abs y)
remainder_signed (pos a) y h = residue_of false (a % unsigned_abs y) (omega (arith, mod-le a (unsigned_abs y)))
remainder_signed (negsuc a) y h = residue_of true (suc a % unsigned_abs y) (omega (arith, mod-le (suc a) (unsigned_abs y)))

magnitude-fits : (s : Bool) (x : ℕ) → x < 2 ^ 32 → magnitude s x < 2 ^ 32
magnitude-fits true x h = grind (arith, ints)
magnitude-fits false x h = h

-- a magnitude is 0 for 0 alone
magnitude_of_0 : (s : Bool) → magnitude s 0 ≡ 0
magnitude_of_0 true = refl
magnitude_of_0 false = refl

magnitude_pos : (s : Bool) (x : ℕ) → x < 2 ^ 32 → 0 < x → 0 < magnitude s x
magnitude_pos true x h p = grind (arith, ints)
magnitude_pos false x h p = p

not_by_0 : (s : Bool) (x : ℕ) → suc x < 2 ^ 32 → (magnitude s (suc x) == 0) ≡ false
not_by_0 s x h = let p = magnitude_pos s (suc x) h (omega arith) in ne_eqb (magnitude s (suc x)) 0 (λ e. omega arith)

signed_back : (s : Bool) (x : ℕ) → x < 2 ^ 32 → negated (negative s x) (magnitude s x) ≡ x
signed_back true x h = grind (arith, ints)
signed_back false x h = refl

-- after the last step, with its sign
module _ (s : Bool) (a : ℕ) (h : a < 2 ^ 32) where
  quotient_of : (b : ℕ) → b < 2 ^ 32
      → negated (not (b == 0) && differ (negative s a) (negative s b)) (quotient_at (magnitude s a) (magnitude s b) 32)
      ≡ cond (b == 0) (2 ^ 32 - 1) (residue (int_div (operand s a) (operand s b)))
  quotient_of zero l = rw (magnitude_of_0 s)
  quotient_of (suc b) l =
      let p = not_by_0 s b l in
      simp (not_zero, p, all_bits) (sym (quotient_signed (operand s a) (operand s (suc b)) (magnitude-fits s a h)))

  remainder_of : (b : ℕ) → b < 2 ^ 32
      → negated (negative s a) (remainder_at (magnitude s a) (magnitude s b) 32)
      ≡ cond (b == 0) a (residue (int_rem (operand s a) (operand s b)))
  remainder_of zero l = rw (magnitude_of_0 s, all_bits) (signed_back s a h)
  remainder_of (suc b) l =
      let p = not_by_0 s b l in
      simp (not_zero, p, all_bits) (sym (remainder_signed (operand s a) (operand s (suc b)) (magnitude-fits s a h)))

-- unsigned numbers are their own bits
unsigned_quotient : (a b : ℕ) (h : a < 2 ^ 32) (l : b < 2 ^ 32)
    → result_of (record { signed = false; remainder = false }) a b ≡ quotient_unsigned a b
unsigned_quotient a b h l =
    quotient_of false a h b l ∙ ap (cond (b == 0) (2 ^ 32 - 1)) (residue_of false (a / b) (omega (arith, div-le_self a b)))

unsigned_remainder : (a b : ℕ) (h : a < 2 ^ 32) (l : b < 2 ^ 32)
    → result_of (record { signed = false; remainder = true }) a b ≡ remainder_unsigned a b
unsigned_remainder a b h l =
    remainder_of false a h b l ∙ ap (cond (b == 0) a) (residue_of false (a % b) (omega (arith, mod-le a b)))

-- an operation that asks for a division is of class Divide, and its result is the outcome
abbrev Answers : Option Division → Operation → Type 0
Answers None o = room_in is_divide (class_of o) ≡ false
Answers (Some d) o = (room_in is_divide (class_of o) ≡ true) × ((z : ℤ) (pc a b : ℕ) → a < 2 ^ 32 → b < 2 ^ 32
    → outcome_of (record { operation = o; rd = 0; rs1 = 0; rs2 = 0; immediate = z }) pc a b ≡ Some (Done (result_of d a b) (sum pc 4)))

answers : (o : Operation) → Answers (division_of o) o
answers Lui = refl
answers Auipc = refl
answers Jal = refl
answers Jalr = refl
answers Beq = refl
answers Bne = refl
answers Blt = refl
answers Bge = refl
answers Bltu = refl
answers Bgeu = refl
answers Addi = refl
answers Slti = refl
answers Sltiu = refl
answers Xori = refl
answers Ori = refl
answers Andi = refl
answers Slli = refl
answers Srli = refl
answers Srai = refl
answers Add = refl
answers Sub = refl
answers Sll = refl
answers Slt = refl
answers Sltu = refl
answers Xor = refl
answers Srl = refl
answers Sra = refl
answers Or = refl
answers And = refl
answers Mul = refl
answers Div = (refl, λ z pc a b h l. ap (λ v. Some (Done v (sum pc 4))) (sym (quotient_of true a h b l)))
answers Divu = (refl, λ z pc a b h l. ap (λ v. Some (Done v (sum pc 4))) (sym (unsigned_quotient a b h l)))
answers Rem = (refl, λ z pc a b h l. ap (λ v. Some (Done v (sum pc 4))) (sym (remainder_of true a h b l)))
answers Remu = (refl, λ z pc a b h l. ap (λ v. Some (Done v (sum pc 4))) (sym (unsigned_remainder a b h l)))
answers Ecall = refl
answers Ebreak = refl
answers Mret = refl

-- the same of what a word reads as
abbrev AnswersRead : Option Division → Result Instruction IllegalWord → Type 0
AnswersRead None x = room_in is_divide (class_read x) ≡ false
AnswersRead (Some d) x = (room_in is_divide (class_read x) ≡ true) × ((pc a b : ℕ) → a < 2 ^ 32 → b < 2 ^ 32
    → outcome_read x pc a b ≡ Some (Done (result_of d a b) (sum pc 4)))

lift : (y : Option Division) (i : Instruction) → Answers y i.operation → AnswersRead y (Ok i)
lift None i p = p
lift (Some d) i p = (p.0, p.1 i.immediate)

answers-read : (x : Result Instruction IllegalWord) → AnswersRead (division_read x) x
answers-read (Ok i) = lift (division_of i.operation) i (answers i.operation)
answers-read (Err e) = refl

at_word : (w : ℕ) (y : Option Division) → division_in w ≡ y → AnswersRead y (read_word w)
at_word w y e = subst (λ (z : Option Division). AnswersRead z (read_word w)) e (answers-read (read_word w))

-- whether an idle divider has room for a word
pub word_room : (w : ℕ) (d : Division) → division_in w ≡ Some d → room_in is_divide (word_class w) ≡ true
word_room w d e = (at_word w (Some d) e).0

pub word_no_room : (w : ℕ) → division_in w ≡ None → room_in is_divide (word_class w) ≡ false
word_no_room w e = at_word w None e

-- the result is the outcome of the job
pub job-done : (job : Job) (d : Division) → division_in job.word ≡ Some d → job.a < 2 ^ 32 → job.b < 2 ^ 32
    → job_outcome job ≡ Some (Done (result_of d job.a job.b) (sum job.pc 4))
job-done job d e h l = (at_word job.word (Some d) e).1 job.pc job.a job.b h l
