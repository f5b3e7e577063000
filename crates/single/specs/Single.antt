-- What the single-job unit means.
-- Assumes nothing.
use Rattle.std.specs.Prelude.{◌≡◌, ℕ, Bool, true, false, cond, ◌&&◌, Some, None, Option, ◌==◌}
use Rattle.isa.specs.declared.operation.Class.{Class}
use Rattle.isa.specs.declared.operation.Class.TheVariants.{Plain, Multiply, Divide, Transfer}
use Rattle.isa.specs.declared.outcome.Outcome.{Outcome}
use Rattle.units.specs.declared.job.Job.{Job}
use Rattle.units.specs.declared.job.Offer.{Offer}
use Rattle.units.specs.Jobs.{word_class, job_outcome, job_offer}
use Rattle.units.specs.Meaning.{Held, UnitModel, room_in}
use Rattle.single.specs.declared.Single.{Single}

abbrev pub serves_plain : Class → Bool
serves_plain Plain = true
serves_plain Multiply = false
serves_plain Divide = false
serves_plain Transfer = false

abbrev pub free : Option Job → Bool
free (Some j) = false
free None = true

-- its job leaves with the next accepted step
abbrev pub held_in : Option Job → ℕ → Option Held
held_in (Some j) t = cond (j.tag == t) (Some (record { job = j; due = 1 })) None
held_in None t = None

abbrev pub offer_in : Option Job → Option Offer
offer_in (Some j) = job_offer j
offer_in None = None

abbrev pub room_beside : Option Job → Class → Bool
room_beside o c = serves_plain c && free o

-- its job has an outcome
abbrev pub Sound : Option Job → Type 0
Sound (Some j) = (o : Outcome) × (job_outcome j ≡ Some o)
Sound None = Unit {0}

abbrev pub single : UnitModel Single
single = record {
  sound = λ u. Sound u.job;
  serves = λ u. serves_plain;
  stay = λ u. 1;
  held = λ u. held_in u.job;
  room = λ u. room_beside u.job;
  offer = λ u. offer_in u.job;
}

-- a job joins where there is room for its word
abbrev pub taken_in : Job → Option Job → Option Job
taken_in j o = cond (room_in (room_beside o) (word_class j.word)) (Some j) o
