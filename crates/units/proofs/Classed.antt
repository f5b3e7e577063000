-- A word that has a class has an outcome.
-- Assumes nothing.
use Rattle.std.proofs.Common.{◌≡◌, ℕ, Some, None, Ok, Err, Option, Result, refl}
use Rattle.isa.specs.declared.instruction.Instruction.{Instruction}
use Rattle.isa.specs.declared.operation.Class.{Class}
use Rattle.isa.specs.declared.outcome.Outcome.{Outcome}
use Rattle.isa.specs.Classes.{class_of}
use Rattle.refusal.specs.declared.IllegalWord.{IllegalWord}
use Rattle.words.specs.Words.{read_word}
use Rattle.execute.specs.Outcomes.{if_classed, worked_out}
use Rattle.units.specs.declared.job.Job.{Job}
use Rattle.units.specs.Jobs.{class_read, word_class, outcome_read, job_outcome}

classed : (k : Option Class) (c : Class) (o : Outcome) → k ≡ Some c → if_classed k o ≡ Some o
classed (Some d) c o e = refl
classed None c o e = absurd cc

read_outcome : (r : Result Instruction IllegalWord) (c : Class) (pc a b : ℕ)
    → class_read r ≡ Some c → (o : Outcome) × (outcome_read r pc a b ≡ Some o)
read_outcome (Ok i) c pc a b e =
    let o = worked_out i pc a b in
    (o, classed (class_of i.operation) c o e)
read_outcome (Err e) c pc a b z = absurd cc

pub classed_outcome : (j : Job) (c : Class) → word_class j.word ≡ Some c → (o : Outcome) × (job_outcome j ≡ Some o)
classed_outcome j c e = read_outcome (read_word j.word) c j.pc j.a j.b e
