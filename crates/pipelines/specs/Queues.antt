-- A queue of jobs, oldest first, each with the steps since it was taken, counted up to a latency.
-- Assumes nothing.
use Rattle.std.specs.Prelude.{ℕ, ◌+◌, min, Bool, false, cond, ◌&&◌, List, [], ◌∷◌, ◌++◌, map, Some, None, Option, nat_le}
use Rattle.units.specs.declared.job.Job.{Job}
use Rattle.pipelines.specs.declared.queue.Timed.{Timed}
use Rattle.pipelines.specs.declared.queue.Queue.{Queue}

abbrev pub jobs_of : Queue → List Timed
jobs_of q = q.jobs.items

abbrev pub oldest : List Timed → Option Timed
oldest [] = None
oldest (x ∷ xs) = Some x

abbrev pub rest : List Timed → List Timed
rest [] = []
rest (x ∷ xs) = xs

abbrev pub fresh : Job → Timed
fresh j = record { job = j; passed = 0 }

abbrev pub pushed : Job → List Timed → List Timed
pushed j xs = xs ++ fresh j ∷ []

-- one step on
abbrev pub ticked : ℕ → Timed → Timed
ticked L x = record { job = x.job; passed = min (x.passed + 1) L }

-- whether a job has waited the latency L
abbrev pub waited : ℕ → Timed → Bool
waited L x = nat_le L x.passed

-- whether the oldest has
abbrev pub ready : ℕ → List Timed → Bool
ready L [] = false
ready L (x ∷ xs) = waited L x

-- the oldest leaves where it is ready and accepted, and the step counts for every job that stays
abbrev pub stepped : ℕ → Bool → List Timed → List Timed
stepped L accepted xs = map (ticked L) (cond (accepted && ready L xs) (rest xs) xs)
