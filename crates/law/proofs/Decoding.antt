-- What is known of a word that asks for a unit.
-- Assumes nothing.
use Rattle.std.proofs.Common.{◌≡◌, ℕ, Bool, true, false, cond, Some, None, Ok, Err, Option, Result, refl, ap, ◌∙◌}
use Rattle.isa.specs.declared.instruction.Instruction.{Instruction}
use Rattle.isa.specs.declared.operation.Class.{Class}
use Rattle.isa.specs.declared.operation.Kind.{Kind}
use Rattle.isa.specs.declared.operation.Kind.TheVariants.{Worked, EnvironmentCall, Breakpoint, TrapReturn}
use Rattle.isa.specs.Classes.{kind_of, class_part}
use Rattle.refusal.specs.declared.IllegalWord.{IllegalWord}
use Rattle.words.specs.Words.{read_word}
use Rattle.execute.specs.Outcomes.{outcome_of}
use Rattle.machine.specs.declared.cause.Cause.TheVariants.{IllegalInstruction}
use Rattle.machine.specs.declared.decode.Decoded.TheVariants.{Trap, Work}
use Rattle.machine.specs.Decode.{kind_decoded, read_decoded, decoded}
use Rattle.machine.specs.Step.{word_or0}
use Rattle.units.specs.declared.job.Job.{Job}
use Rattle.units.specs.Jobs.{class_read, word_class, outcome_read, job_outcome}

-- decoding depends on the set of served classes alone ------------------------

kind_decoded_same : (s t : Class → Bool) (i : Instruction) (k : Kind) → ((c : Class) → s c ≡ t c)
    → kind_decoded s i k ≡ kind_decoded t i k
kind_decoded_same s t i (Worked c) h = ap (λ (b : Bool). cond b (Work c i) (Trap IllegalInstruction)) (h c)
kind_decoded_same s t i EnvironmentCall h = refl
kind_decoded_same s t i Breakpoint h = refl
kind_decoded_same s t i TrapReturn h = refl

read_decoded_same : (s t : Class → Bool) (r : Result Instruction IllegalWord) → ((c : Class) → s c ≡ t c)
    → read_decoded s r ≡ read_decoded t r
read_decoded_same s t (Ok i) h = kind_decoded_same s t i (kind_of i.operation) h
read_decoded_same s t (Err e) h = refl

pub decoded_same : (s t : Class → Bool) (w : Option ℕ) → ((c : Class) → s c ≡ t c) → decoded s w ≡ decoded t w
decoded_same s t None h = refl
decoded_same s t (Some w) h = read_decoded_same s t (read_word w) h

-- a word that asks for a unit ---------------------------------------------------

module _ (served : Class → Bool) (c : Class) (i : Instruction) where
  -- what is known of the class k and the reading r of a word that asks for a unit of class c to work out i
  record Asks (k : Option Class) (r : Result Instruction IllegalWord) : Type 0 where
    pub is_served : served c ≡ true
    pub class : k ≡ Some c
    pub read : r ≡ Ok i

  worked-asks : (d : Class) (j : Instruction) (b : Bool) → served d ≡ b
      → cond b (Work d j) (Trap IllegalInstruction) ≡ Work c i → Asks (Some d) (Ok j)
  worked-asks d j true s e =
      record { is_served = cc; class = cc; read = cc }
  worked-asks d j false s e = cc

  kind_asks : (k : Kind) (j : Instruction) → kind_decoded served j k ≡ Work c i → Asks (class_part k) (Ok j)
  kind_asks (Worked d) j e = worked-asks d j (served d) refl e
  kind_asks EnvironmentCall j e = cc
  kind_asks Breakpoint j e = cc
  kind_asks TrapReturn j e = cc

  read-asks : (r : Result Instruction IllegalWord) → read_decoded served r ≡ Work c i → Asks (class_read r) r
  read-asks (Ok j) e = kind_asks (kind_of j.operation) j e
  read-asks (Err f) e = cc

  word_asks : (w : Option ℕ) → decoded served w ≡ Work c i → Asks (word_class (word_or0 w)) (read_word (word_or0 w))
  word_asks None e = cc
  word_asks (Some w) e = read-asks (read_word w) e

module _ (served : Class → Bool) (w : Option ℕ) (c : Class) (i : Instruction) (e : decoded served w ≡ Work c i) where
  pub work-served : served c ≡ true
  work-served = (word_asks served c i w e).is_served

  pub work-class : word_class (word_or0 w) ≡ Some c
  work-class = (word_asks served c i w e).class

  pub work_outcome : (j : Job) → j.word ≡ word_or0 w → job_outcome j ≡ outcome_of i j.pc j.a j.b
  work_outcome j h =
      ap (λ (r : Result Instruction IllegalWord). outcome_read r j.pc j.a j.b)
      (ap read_word h ∙ (word_asks served c i w e).read)
