-- A division on its way is known by its division, its job and its steps: all else follows, and can follow in one way only.
-- Assumes nothing.
use Rattle.std.proofs.Common.{◌≡◌, ℕ, ◌+◌, ◌<◌, refl, ap}
use native.Mathlib.Bridge.{le_prop}
use native.Mathlib.Decide.{dec_lt}
use mathlib.Core.Path.{path_j'}
use Rattle.units.specs.declared.job.Job.{Job}
use Rattle.divider.specs.declared.division.Division.{Division}
use Rattle.divider.specs.declared.working.Working.{Working as Work}
use Rattle.divider.specs.declared.state.State.TheVariants.{Working}
use Rattle.divider.specs.Restoring.{quotient_at, remainder_at}
use Rattle.divider.specs.Signs.{magnitude}
use Rattle.divider.specs.States.{working_at, step_or, next_of}

module _ (d : Division) (job : Job) (j : ℕ) (h k : j < 32) where
  abbrev made : (n m q r : ℕ) → n ≡ magnitude d.signed job.a → m ≡ magnitude d.signed job.b
      → q ≡ quotient_at n m j → r ≡ remainder_at n m j → Work
  made n m q r x y u v =
      record {
        job = job;
        division = d;
        dividend = n;
        divisor = m;
        steps = j;
        quotient = q;
        remainder = r;
        short = h;
        magnitudes = (x, y);
        results = (u, v);
      }

  made_at : (n m q r : ℕ) (x : n ≡ magnitude d.signed job.a) (y : m ≡ magnitude d.signed job.b)
      (u : q ≡ quotient_at n m j) (v : r ≡ remainder_at n m j) → made n m q r x y u v ≡ working_at d job j k
  made_at n m q r x y u v =
      path_j' (λ q u. made n m q r x y u v ≡ working_at d job j k)
      (path_j' (λ r v. made n m (quotient_at n m j) r x y refl v ≡ working_at d job j k)
      (path_j' (λ n x. made n m (quotient_at n m j) (remainder_at n m j) x y refl refl ≡ working_at d job j k)
      (path_j' (λ m y. made _ m (quotient_at _ m j) (remainder_at _ m j) refl y refl refl ≡ working_at d job j k)
      (ap (working_at d job j) (le_prop h k)) y) x) v) u

pub known : (w : Work) (k : w.steps < 32) → w ≡ working_at w.division w.job w.steps k
known w k =
    made_at w.division w.job w.steps w.short k w.dividend w.divisor w.quotient w.remainder
    w.magnitudes.0 w.magnitudes.1 w.results.0 w.results.1

-- with steps to make, it goes on
on : (w : Work) (h : w.steps + 1 < 32) (x : Dec (w.steps + 1 < 32))
    → Working (working_at w.division w.job (w.steps + 1) h) ≡ step_or w x
on w h (yes k) = ap (λ p. Working (working_at w.division w.job (w.steps + 1) p)) (le_prop h k)
on w h (no k) = absurd (k h)

pub goes_on : (w : Work) (h : w.steps + 1 < 32) → Working (working_at w.division w.job (w.steps + 1) h) ≡ next_of w
goes_on w h = on w h (dec_lt (w.steps + 1) 32)
