-- What a job asks for: the class and the outcome of its word; and what is offered of it.
-- Assumes nothing.
use Rattle.std.specs.Prelude.{ℕ, Some, None, Ok, Err, Option, Result}
use Rattle.isa.specs.declared.instruction.Instruction.{Instruction}
use Rattle.isa.specs.declared.operation.Class.{Class}
use Rattle.isa.specs.declared.outcome.Outcome.{Outcome}
use Rattle.isa.specs.Classes.{class_of}
use Rattle.refusal.specs.declared.IllegalWord.{IllegalWord}
use Rattle.words.specs.Words.{read_word}
use Rattle.execute.specs.Outcomes.{outcome_of}
use Rattle.units.specs.declared.job.Job.{Job}
use Rattle.units.specs.declared.job.Offer.{Offer}

abbrev pub class_read : Result Instruction IllegalWord → Option Class
class_read (Ok i) = class_of i.operation
class_read (Err e) = None

-- nothing for an illegal word, and for ECALL, EBREAK and MRET
abbrev pub word_class : ℕ → Option Class
word_class w = class_read (read_word w)

abbrev pub outcome_read : Result Instruction IllegalWord → ℕ → ℕ → ℕ → Option Outcome
outcome_read (Ok i) pc a b = outcome_of i pc a b
outcome_read (Err e) pc a b = None

abbrev pub job_outcome : Job → Option Outcome
job_outcome j = outcome_read (read_word j.word) j.pc j.a j.b

abbrev pub offer_of : Job → Option Outcome → Option Offer
offer_of j (Some o) = Some (record { tag = j.tag; outcome = o })
offer_of j None = None

-- its outcome under its tag
abbrev pub job_offer : Job → Option Offer
job_offer j = offer_of j (job_outcome j)
