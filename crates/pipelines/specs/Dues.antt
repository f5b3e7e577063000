-- What is held in a queue, and when it is due: as it is, a step on, and with one more job.
-- Assumes nothing.
use Rattle.std.specs.Prelude.{◌≡◌, ℕ, ◌+◌, ◌≤◌, max, cond, ◌≢◌, List, [], ◌∷◌, map, length, Some, None, Option, ◌==◌, refl}
use Rattle.std.proofs.Common.{sym, subst, arith}
use Rattle.std.proofs.lemmas.Option.{IfSome_then}
use Rattle.std.specs.List.{AllByRecursion}
use Rattle.std.specs.Option.{IfSome}
use Rattle.units.specs.declared.job.Job.{Job}
use Rattle.units.specs.Meaning.{Held, Fell, Holds}
use Rattle.pipelines.specs.declared.queue.Timed.{Timed}
use Rattle.pipelines.specs.Queues.{fresh, pushed, ticked}
use Rattle.pipelines.specs.Pipelines.{due_after, held_after, held_from}
use Rattle.pipelines.specs.Cases.{by_eqb, both}

pub if_held : (P : Held → Type 0) (o : Option Held) (h : Held) → IfSome o P → o ≡ Some h → P h
if_held P o h p e = subst (λ x. IfSome x P) e p

-- among n jobs behind one that is due at p: later than that, and at most n steps after it and the latency
pub record InTurn (L p n t : ℕ) (h : Held) : Type 0 where
  pub tagged : h.job.tag ≡ t
  pub later : p + 1 ≤ h.due
  pub soon : h.due ≤ max p L + n

module _ (L : ℕ) where
  -- under a tag is the oldest job, or what is held behind it
  by_tag : (P : Option Held → Type 0) (p : ℕ) (x : Timed) (xs : List Timed) (t : ℕ)
      → (x.job.tag ≡ t → P (Some (held_after L p x)))
      → (x.job.tag ≢ t → P (held_from L (due_after L p x) xs t))
      → P (held_from L p (x ∷ xs) t)
  by_tag P p x xs t =
      by_eqb (λ b. P (cond b (Some (held_after L p x)) (held_from L (due_after L p x) xs t))) x.job.tag t

  pub in_turn : (p : ℕ) (xs : List Timed) (t : ℕ) → IfSome (held_from L p xs t) (InTurn L p (length xs) t)
  in_turn p [] t = tt
  in_turn p (x ∷ xs) t =
      by_tag (λ o. IfSome o (InTurn L p (length (x ∷ xs)) t)) p x xs t
      (λ e. record { tagged = e; later = omega arith; soon = omega arith })
      (λ _. IfSome_then (held_from L (due_after L p x) xs t) (in_turn (due_after L p x) xs t)
      (λ h i. record { tagged = i.tagged; later = omega (arith, i.later); soon = omega (arith, i.soon) }))

  -- a step on, where what is in front is due k earlier
  pub falls : (k p p' : ℕ) → k ≤ 1 → p' + k ≤ p → (xs : List Timed) (t : ℕ)
      → Fell k (held_from L p xs t) (held_from L p' (map (ticked L) xs) t)
  falls k p p' one early [] t = tt
  falls k p p' one early (x ∷ xs) t =
      let lower : due_after L p' (ticked L x) + k ≤ due_after L p x = omega arith in
      both (Fell k) (x.job.tag == t) (refl, lower)
      (falls k (due_after L p x) (due_after L p' (ticked L x)) one lower xs t)

  pub none_held : (p : ℕ) (xs : List Timed) (t : ℕ) → AllByRecursion (λ y. y.job.tag ≢ t) xs → held_from L p xs t ≡ None
  none_held p [] t h = refl
  none_held p (x ∷ xs) t h =
      by_tag (λ o. o ≡ None) p x xs t (λ e. absurd (h.0 e)) (λ _. none_held (due_after L p x) xs t h.1)

  pub none_tagged : (p : ℕ) (xs : List Timed) (t : ℕ) → held_from L p xs t ≡ None → AllByRecursion (λ y. y.job.tag ≢ t) xs
  none_tagged p [] t = λ h. tt
  none_tagged p (x ∷ xs) t =
      by_tag (λ o. o ≡ None → AllByRecursion (λ y. y.job.tag ≢ t) (x ∷ xs)) p x xs t
      (λ _ h. absurd cc)
      (λ ne h. (ne, none_tagged (due_after L p x) xs t h))

  pub joins : (p : ℕ) (xs : List Timed) (j : Job) → AllByRecursion (λ y. y.job.tag ≢ j.tag) xs
      → Holds j (held_from L p (pushed j xs) j.tag)
  joins p [] j h = by_tag (Holds j) p (fresh j) [] j.tag (λ _. refl) (λ ne. absurd (ne refl))
  joins p (x ∷ xs) j h =
      by_tag (Holds j) p x (pushed j xs) j.tag (λ e. absurd (h.0 e)) (λ _. joins (due_after L p x) xs j h.1)

  pub others : (p : ℕ) (xs : List Timed) (j : Job) (t : ℕ) → t ≢ j.tag → Fell 0 (held_from L p xs t) (held_from L p (pushed j xs) t)
  others p [] j t ne = by_tag (Fell 0 None) p (fresh j) [] t (λ e. absurd (ne (sym e))) (λ _. tt)
  others p (x ∷ xs) j t ne =
      both (Fell 0) (x.job.tag == t) (refl, omega arith) (others (due_after L p x) xs j t ne)
