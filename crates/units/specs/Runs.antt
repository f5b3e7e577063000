-- Runs of a unit: any calls of take and step, one after the other, and what they promise together.
-- Assumes nothing.
use Rattle.std.specs.Prelude.{◌≡◌, ℕ, ◌+◌, ◌≤◌, Bool, true, false, ◌⊎◌, Some, None}
use Rattle.units.specs.declared.job.Job.{Job}
use Rattle.units.specs.declared.job.Offer.{Offer}
use Rattle.units.specs.Jobs.{job_outcome}
use Rattle.units.specs.Meaning.{UnitModel, room_for}
use Rattle.units.specs.Calls.{TakeCall, StepCall}

-- a unit offers a job's tag with the outcome of its word
abbrev pub OffersJob : {A : Type 0} → UnitModel A → A → Job → Type 0
OffersJob m u j = (o : Offer) × (m.offer u ≡ Some o) × (o.tag ≡ j.tag) × (job_outcome j ≡ Some o.outcome)

-- a job that there is room for has a tag that is not held
abbrev pub Fresh : {A : Type 0} → UnitModel A → A → Job → Type 0
Fresh m u j = room_for m u j.word ≡ true → m.held u j.tag ≡ None

module _ {A : Type 0} (m : UnitModel A) where
  -- Calls from one state of the unit to another. A take may be refused, and a step unaccepted.
  pub data Run : A → A → Type 0 where
    end : {u : A} → Run u u
    take : {u v w : A} (j : Job) → Fresh m u j → TakeCall m u j v → Run v w → Run u w
    step : {u v w : A} (accepted : Bool) → StepCall m u accepted v → Run v w → Run u w

  abbrev pub accepted_steps : {u w : A} → Run u w → ℕ
  accepted_steps end = 0
  accepted_steps (take j fresh call rest) = accepted_steps rest
  accepted_steps (step true call rest) = accepted_steps rest + 1
  accepted_steps (step false call rest) = accepted_steps rest

  -- at an accepted step of the run the unit offers the job
  abbrev pub Delivers : {u w : A} → Run u w → Job → Type 0
  Delivers end j = ⊥
  Delivers (take k fresh call rest) j = Delivers rest j
  Delivers (step {u} true call rest) j = OffersJob m u j ⊎ Delivers rest j
  Delivers (step false call rest) j = Delivers rest j

  -- A job that is taken is offered, with the outcome of its word, within as many accepted steps as the unit's
  -- longest stay, whatever else is taken or refused meanwhile.
  abbrev pub OfferedWithinStay : Type 0
  OfferedWithinStay =
      (u v w : A) (j : Job) → m.sound u → room_for m u j.word ≡ true → m.held u j.tag ≡ None → TakeCall m u j v
      → (run : Run v w) → m.stay u ≤ accepted_steps run → Delivers run j
