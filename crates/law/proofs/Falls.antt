-- What is held under a tag, before and after a call in which dues fell.
-- Assumes nothing.
use Rattle.std.proofs.Common.{◌≡◌, ℕ, ◌+◌, ◌≤◌, Bool, true, false, Some, None, Option, sym, refl, ap, ◌∙◌, arith}
use Rattle.units.specs.declared.job.Job.{Job}
use Rattle.units.specs.Meaning.{Held, Fell, Holds, Moved}

-- what is held afterwards was held before, as the same job with a higher due
pub record Was (k : ℕ) (o : Option Held) (h' : Held) : Type 0 where
  pub held : Held
  pub is : o ≡ Some held
  pub job : h'.job ≡ held.job
  pub due : h'.due + k ≤ held.due

pub was-held : (k : ℕ) (o o' : Option Held) (h' : Held) → Fell k o o' → o' ≡ Some h' → Was k o h'
was-held k None None h' f e = cc
was-held k None (Some p) h' f e = absurd f
was-held k (Some h) None h' f e = cc
was-held k (Some h) (Some p) h' f e =
    let same : p ≡ h' = cc in
    record {
      held = h;
      is = refl;
      job = ap (λ (y : Held). y.job) (sym same) ∙ f.0;
      due = omega (arith, f.1, ap (λ (y : Held). y.due) same);
    }

-- what was held is held afterwards, with a due that fell
pub record Stays (k : ℕ) (h : Held) (o' : Option Held) : Type 0 where
  pub held : Held
  pub is : o' ≡ Some held
  pub due : held.due + k ≤ h.due

pub stays-held : (k : ℕ) (o o' : Option Held) (h : Held) → Fell k o o' → o ≡ Some h → Stays k h o'
stays-held k None o' h f e = cc
stays-held k (Some p) None h f e = absurd f
stays-held k (Some p) (Some h') h f e =
    let same : p ≡ h = cc in
    record { held = h'; is = refl; due = omega (arith, f.1, ap (λ (y : Held). y.due) same) }

pub stays_free : (k : ℕ) (o o' : Option Held) → Fell k o o' → o ≡ None → o' ≡ None
stays_free k None None f e = refl
stays_free k None (Some p) f e = absurd f
stays_free k (Some h) o' f e = cc

-- the job that was taken is held
pub holds_it : (j : Job) (o : Option Held) → Holds j o → (h : Held) × (o ≡ Some h) × (h.job ≡ j)
holds_it j None f = absurd f
holds_it j (Some h) f = (h, refl, f)

pub holds_only : (j : Job) (o : Option Held) (h : Held) → Holds j o → o ≡ Some h → h.job ≡ j
holds_only j None h f e = absurd f
holds_only j (Some p) h f e = cc

-- of a step that was accepted: what is held afterwards was not offered
pub was_not_offered : (b : Bool) (o o' : Option Held) (h' : Held) → Moved true b o o' → o' ≡ Some h' → (b ≡ false) × Fell 1 o o'
was_not_offered true o o' h' f e = cc
was_not_offered false o o' h' f e = (refl, f)

pub moved_free : (b : Bool) (o o' : Option Held) → Moved true b o o' → o ≡ None → o' ≡ None
moved_free true o o' f e = f
moved_free false o o' f e = stays_free 1 o o' f e
