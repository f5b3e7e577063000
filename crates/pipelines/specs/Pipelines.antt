-- What a pipeline means as a unit: a queue of timed jobs, by its latency L, its capacity N and the classes that it serves.
-- Assumes nothing.
use Rattle.std.specs.Prelude.{◌≡◌, ℕ, ◌+◌, ◌-◌, ◌≤◌, max, Bool, cond, ◌&&◌, ◌≢◌, List, [], ◌∷◌, length, Some, None, Option, ◌==◌, nat_lt}
use Rattle.std.specs.List.{AllByRecursion}
use Rattle.isa.specs.declared.operation.Class.{Class}
use Rattle.isa.specs.declared.outcome.Outcome.{Outcome}
use Rattle.units.specs.declared.job.Job.{Job}
use Rattle.units.specs.declared.job.Offer.{Offer}
use Rattle.units.specs.Jobs.{word_class, job_outcome, job_offer}
use Rattle.units.specs.Meaning.{Held, UnitModel, room_in}
use Rattle.pipelines.specs.declared.queue.Timed.{Timed}
use Rattle.pipelines.specs.Queues.{waited, pushed}

-- the due of a job behind one that is due at p: it leaves after that one, and not before it has waited
abbrev pub due_after : ℕ → ℕ → Timed → ℕ
due_after L p x = max (p + 1) (L + 1 - x.passed)

abbrev pub held_after : ℕ → ℕ → Timed → Held
held_after L p x = record { job = x.job; due = due_after L p x }

-- the job under a tag, in a queue behind one that is due at p
abbrev pub held_from : ℕ → ℕ → List Timed → ℕ → Option Held
held_from L p [] t = None
held_from L p (x ∷ xs) t = cond (x.job.tag == t) (Some (held_after L p x)) (held_from L (due_after L p x) xs t)

-- the outcome of a job that has waited
abbrev pub outcome_offer : ℕ → Timed → Option Offer
outcome_offer L x = cond (waited L x) (job_offer x.job) None

-- the oldest is offered
abbrev pub offered : ℕ → List Timed → Option Offer
offered L [] = None
offered L (x ∷ xs) = outcome_offer L x

abbrev pub room_left : ℕ → (Class → Bool) → List Timed → Class → Bool
room_left N serves xs c = serves c && nat_lt (length xs) N

-- no two jobs have one tag
abbrev pub Apart : List Timed → Type 0
Apart [] = Unit {0}
Apart (x ∷ xs) = AllByRecursion (λ y. y.job.tag ≢ x.job.tag) xs × Apart xs

-- a job that a unit works out
abbrev pub Worked : Timed → Type 0
Worked x = (o : Outcome) × (job_outcome x.job ≡ Some o)

-- what holds of a queue since the last clear, where no tag was taken while it was held
pub record Sound (N : ℕ) (xs : List Timed) : Type 0 where
  pub few : length xs ≤ N
  pub worked : AllByRecursion Worked xs
  pub apart : Apart xs

-- with the list of jobs that a unit's state holds; a job waits at most L steps, and then for those in front of it
abbrev pub pipeline : {A : Type 0} → ℕ → ℕ → (Class → Bool) → (A → List Timed) → UnitModel A
pipeline L N serves jobs = record {
  sound = λ u. Sound N (jobs u);
  serves = λ u. serves;
  stay = λ u. L + N;
  held = λ u. held_from L 0 (jobs u);
  room = λ u. room_left N serves (jobs u);
  offer = λ u. offered L (jobs u);
}

-- a job joins where there is room for its word
abbrev pub taken : ℕ → (Class → Bool) → Job → List Timed → List Timed
taken N serves j xs = cond (room_in (room_left N serves xs) (word_class j.word)) (pushed j xs) xs
