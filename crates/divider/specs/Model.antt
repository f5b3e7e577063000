-- The divider as a unit: it serves class Divide, and holds one job for at most 33 accepted steps.
-- Assumes nothing.
use Rattle.std.specs.Prelude.{◌≡◌, ℕ, ◌-◌, ◌^◌, ◌<◌, Bool, false, cond, Some, None, Option, ◌==◌}
use Rattle.isa.specs.declared.operation.Class.{Class}
use Rattle.isa.specs.declared.outcome.Outcome.{Outcome}
use Rattle.isa.specs.declared.outcome.Outcome.TheVariants.{Done}
use Rattle.execute.specs.Outcomes.{sum}
use Rattle.units.specs.declared.job.Job.{Job}
use Rattle.units.specs.declared.job.Offer.{Offer}
use Rattle.units.specs.Jobs.{job_outcome}
use Rattle.units.specs.Meaning.{Held, UnitModel}
use Rattle.divider.specs.declared.Divider.{Divider}
use Rattle.divider.specs.declared.state.Finished.{Finished as Result}
use Rattle.divider.specs.declared.state.State.{State}
use Rattle.divider.specs.declared.state.State.TheVariants.{Idle, Working, Finished}
use Rattle.divider.specs.Divisions.{is_divide, division_in}

abbrev pub held_under : Job → ℕ → ℕ → Option Held
held_under job due t = cond (job.tag == t) (Some (record { job = job; due = due })) None

-- a job is due in as many steps as it still takes, and in one more to be accepted
abbrev pub held_in : State → ℕ → Option Held
held_in Idle t = None
held_in (Working w) t = held_under w.job (33 - w.steps) t
held_in (Finished f) t = held_under f.job 1 t

abbrev pub room_of : State → Class → Bool
room_of Idle c = is_divide c
room_of (Working w) c = false
room_of (Finished f) c = false

abbrev pub outcome_in : Result → Outcome
outcome_in f = Done f.value (sum f.job.pc 4)

abbrev pub offer_of : State → Option Offer
offer_of Idle = None
offer_of (Working w) = None
offer_of (Finished f) = Some (record { tag = f.job.tag; outcome = outcome_in f })

-- the job on its way asks for the division that is made, of numbers of 32 bits; the result is its job's
abbrev pub SoundState : State → Type 0
SoundState Idle = Unit {0}
SoundState (Working w) = (division_in w.job.word ≡ Some w.division) × (w.job.a < 2 ^ 32) × (w.job.b < 2 ^ 32)
SoundState (Finished f) = job_outcome f.job ≡ Some (outcome_in f)

abbrev pub Sound : Divider → Type 0
Sound u = SoundState u.state

abbrev pub model : UnitModel Divider
model =
    record {
      sound = Sound;
      serves = λ u c. is_divide c;
      stay = λ u. 33;
      held = λ u t. held_in u.state t;
      room = λ u c. room_of u.state c;
      offer = λ u. offer_of u.state;
    }
