-- How the divider goes on: exactly which state follows which.
-- Assumes nothing.
use Rattle.std.specs.Prelude.{ℕ, ◌+◌, ◌<◌, Bool, true, false, Some, None, Option, refl}
use Rattle.std.proofs.Math.Decide.{dec_lt}
use Rattle.std.proofs.Common.{lit<}
use Rattle.units.specs.declared.job.Job.{Job}
use Rattle.divider.specs.declared.Divider.{Divider}
use Rattle.divider.specs.declared.division.Division.{Division}
use Rattle.divider.specs.declared.working.Working.{Working as Work}
use Rattle.divider.specs.declared.state.State.{State}
use Rattle.divider.specs.declared.state.State.TheVariants.{Idle, Working, Finished}
use Rattle.divider.specs.Divisions.{division_in}
use Rattle.divider.specs.Restoring.{quotient_at, remainder_at}
use Rattle.divider.specs.Signs.{magnitude, result_of}

-- a division of a job after j of its 32 steps
abbrev pub working_at : Division → Job → (j : ℕ) → j < 32 → Work
working_at d job j h =
    let n = magnitude d.signed job.a in
    let m = magnitude d.signed job.b in
    record {
      job = job;
      division = d;
      dividend = n;
      divisor = m;
      steps = j;
      quotient = quotient_at n m j;
      remainder = remainder_at n m j;
      short = h;
      magnitudes = (refl, refl);
      results = (refl, refl);
    }

abbrev pub start_of : Division → Job → Work
start_of d job = working_at d job 0 (lit< tt)

abbrev pub finished_of : Division → Job → State
finished_of d job = Finished (record { job = job; value = result_of d job.a job.b })

-- one step more, or after the last the result
abbrev pub step_or : (w : Work) → Dec (w.steps + 1 < 32) → State
step_or w (yes h) = Working (working_at w.division w.job (w.steps + 1) h)
step_or w (no h) = finished_of w.division w.job

abbrev pub next_of : Work → State
next_of w = step_or w (dec_lt (w.steps + 1) 32)

-- the divider's calls -----------------------------------------------------------

abbrev pub idle : Divider
idle = record { state = Idle }

-- the division that a word asks for, while no other is held
abbrev pub admitted : State → ℕ → Option Division
admitted Idle w = division_in w
admitted (Working v) w = None
admitted (Finished f) w = None

abbrev pub taken : State → Option Division → Job → State
taken s (Some d) job = Working (start_of d job)
taken s None job = s

abbrev pub took_in : Divider → Job → Divider
took_in u job = record { state = taken u.state (admitted u.state job.word) job }

-- a division goes on whether the offer was accepted or not; a result stays until it is
abbrev pub stepped : Bool → State → State
stepped accepted Idle = Idle
stepped accepted (Working w) = next_of w
stepped true (Finished f) = Idle
stepped false (Finished f) = Finished f

abbrev pub stepped_in : Bool → Divider → Divider
stepped_in accepted u = record { state = stepped accepted u.state }
