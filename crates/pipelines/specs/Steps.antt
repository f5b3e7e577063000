-- A step of a queue: what leaves, what stays, and that the queue is still sound.
-- Assumes nothing.
use Rattle.std.specs.Prelude.{◌≡◌, ℕ, ◌+◌, ◌<◌, ◌≤◌, Bool, true, false, cond, ◌&&◌, ◌≢◌, List, [], ◌∷◌, map, length, Some, None, Option, ◌==◌, refl}
use Rattle.std.proofs.Common.{sym, subst, ◌∙◌, arith}
use Rattle.std.specs.List.{AllByRecursion}
use Rattle.std.proofs.lemmas.List.{length-map, length_push}
use Rattle.std.proofs.ByRecursion.{All-map, All-push, All-weaker}
use Rattle.isa.specs.declared.outcome.Outcome.{Outcome}
use Rattle.units.specs.declared.job.Job.{Job}
use Rattle.units.specs.Jobs.{job_outcome, offer_of}
use Rattle.units.specs.Meaning.{Fell, Moved, offers_tag}
use Rattle.pipelines.specs.declared.queue.Timed.{Timed}
use Rattle.pipelines.specs.Queues.{ticked, fresh, pushed, rest, ready, stepped}
use Rattle.pipelines.specs.Pipelines.{due_after, held_after, held_from, offered, Apart, Worked, Sound}
use Rattle.pipelines.specs.Cases.{by_eqb, by_leb, both}
use Rattle.pipelines.specs.Dues.{falls, none_held}

-- what is held after a step ---------------------------------------------------

module _ (L : ℕ) (x : Timed) (xs : List Timed) (t : ℕ) where
  -- the oldest is not ready: it is due in two steps or more, and each job a step earlier than it was
  waits : x.passed < L → Fell 1 (held_from L 0 (x ∷ xs) t) (held_from L 0 (map (ticked L) (x ∷ xs)) t)
  waits early =
      let lower : due_after L 0 (ticked L x) + 1 ≤ due_after L 0 x = omega arith in
      both (Fell 1) (x.job.tag == t) (refl, lower)
      (falls L 1 (due_after L 0 x) (due_after L 0 (ticked L x)) (omega arith) lower xs t)

  -- the oldest leaves, and no other job has its tag
  leaves : AllByRecursion (λ y. y.job.tag ≢ x.job.tag) xs
      → Moved true (x.job.tag == t) (held_from L 0 (x ∷ xs) t) (held_from L 0 (map (ticked L) xs) t)
  leaves others =
      by_eqb
      (λ b. Moved true b (cond b (Some (held_after L 0 x)) (held_from L (due_after L 0 x) xs t)) (held_from L 0 (map (ticked L) xs) t))
      x.job.tag t
      (λ e. none_held L 0 (map (ticked L) xs) t
      (All-map (λ y. y.job.tag ≢ t) (ticked L) xs (All-weaker _ (λ y. y.job.tag ≢ t) (λ y ne q. ne (q ∙ sym e)) xs others)))
      (λ _. falls L 1 (due_after L 0 x) 0 (omega arith) (omega arith) xs t)

  accepted_moves : Worked x → AllByRecursion (λ y. y.job.tag ≢ x.job.tag) xs
      → Moved true (offers_tag (offered L (x ∷ xs)) t) (held_from L 0 (x ∷ xs) t) (held_from L 0 (stepped L true (x ∷ xs)) t)
  accepted_moves w others =
      by_leb
      (λ b. Moved true (offers_tag (cond b (offer_of x.job (job_outcome x.job)) None) t) (held_from L 0 (x ∷ xs) t) (held_from L 0 (map (ticked L) (cond b xs (x ∷ xs))) t))
      L x.passed
      (λ _. subst (λ (r : Option Outcome). Moved true (offers_tag (offer_of x.job r) t) (held_from L 0 (x ∷ xs) t) (held_from L 0 (map (ticked L) xs) t))
      (sym w.1) (leaves others))
      (λ early. waits early)

pub moves : (L : ℕ) (accepted : Bool) (xs : List Timed) → AllByRecursion Worked xs → Apart xs → (t : ℕ)
    → Moved accepted (offers_tag (offered L xs) t) (held_from L 0 xs t) (held_from L 0 (stepped L accepted xs) t)
moves L false xs w a t = falls L 0 0 0 (omega arith) (omega arith) xs t
moves L true [] w a t = tt
moves L true (x ∷ xs) w a t = accepted_moves L x xs t w.0 a.0

-- soundness is kept -------------------------------------------------------------

apart-ticked : (L : ℕ) (xs : List Timed) → Apart xs → Apart (map (ticked L) xs)
apart-ticked L [] a = tt
apart-ticked L (x ∷ xs) a = (All-map (λ y. y.job.tag ≢ x.job.tag) (ticked L) xs a.0, apart-ticked L xs a.1)

sound-ticked : (L N : ℕ) (xs : List Timed) → Sound N xs → Sound N (map (ticked L) xs)
sound-ticked L N xs s = record {
  few = simp length-map s.few;
  worked = All-map Worked (ticked L) xs s.worked;
  apart = apart-ticked L xs s.apart;
}

sound_rest : (N : ℕ) (xs : List Timed) → Sound N xs → Sound N (rest xs)
sound_rest N [] s = s
sound_rest N (x ∷ xs) s = record { few = omega (arith, s.few); worked = s.worked.1; apart = s.apart.1 }

staying : (N : ℕ) (b : Bool) (xs : List Timed) → Sound N xs → Sound N (cond b (rest xs) xs)
staying N true xs s = sound_rest N xs s
staying N false xs s = s

pub sound-stepped : (L N : ℕ) (accepted : Bool) (xs : List Timed) → Sound N xs → Sound N (stepped L accepted xs)
sound-stepped L N accepted xs s =
    let leaves = accepted && ready L xs in
    sound-ticked L N (cond leaves (rest xs) xs) (staying N leaves xs s)

apart-pushed : (j : Job) (xs : List Timed) → AllByRecursion (λ y. y.job.tag ≢ j.tag) xs → Apart xs → Apart (pushed j xs)
apart-pushed j [] n a = (tt, tt)
apart-pushed j (x ∷ xs) n a =
    (All-push (λ y. y.job.tag ≢ x.job.tag) xs (fresh j) a.0 (λ e. n.0 (sym e)), apart-pushed j xs n.1 a.1)

pub sound-pushed : (N : ℕ) (j : Job) (xs : List Timed) → length xs < N → (o : Outcome) → job_outcome j ≡ Some o
    → AllByRecursion (λ y. y.job.tag ≢ j.tag) xs → Sound N xs → Sound N (pushed j xs)
sound-pushed N j xs room o e n s = record {
  few = omega (arith, length_push xs (fresh j));
  worked = All-push Worked xs (fresh j) s.worked (o, e);
  apart = apart-pushed j xs n s.apart;
}
