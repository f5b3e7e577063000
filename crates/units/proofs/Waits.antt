-- A held job's due falls with every accepted step that does not offer it, and never rises.
-- Assumes nothing.
use Rattle.std.proofs.Common.{◌≡◌, ℕ, ◌+◌, ◌≤◌, Bool, true, false, ◌⊎◌, Some, None, Option, sym, refl, ap, ◌∙◌, subst, inl, inr, arith}
use Rattle.std.proofs.lemmas.Bool.{eqb-true, false≢true}
use Rattle.std.proofs.lemmas.Option.{none-some}
use Rattle.units.specs.declared.job.Job.{Job}
use Rattle.units.specs.declared.job.Offer.{Offer}
use Rattle.units.specs.Jobs.{job_outcome}
use Rattle.units.specs.Meaning.{UnitModel, Held, Fell, Holds, Moved, Taken, room_for, offers_tag}
use Rattle.units.specs.Calls.{Keeps}
use Rattle.units.specs.Runs.{Fresh, Run, end, take, step, accepted_steps, OffersJob, Delivers, OfferedWithinStay}

-- the job is held, and due within n accepted steps
pub record DueIn (n : ℕ) (j : Job) (o : Option Held) : Type 0 where
  pub held : Held
  pub is : o ≡ Some held
  pub same : held.job ≡ j
  pub due : held.due ≤ n

-- where the dues fell by k, the job is due k steps sooner
after_fall : (k p n : ℕ) (j : Job) (o o' : Option Held) → p ≤ n + k → Fell k o o' → DueIn p j o → DueIn n j o'
after_fall k p n j None o' le f d = absurd (none-some d.held d.is)
after_fall k p n j (Some h) None le f d = absurd f
after_fall k p n j (Some h) (Some h') le f d =
    let whole : h ≡ d.held = let e = d.is in cc in
    record {
      held = h';
      is = refl;
      same = f.0 ∙ (ap (λ (x : Held). x.job) whole ∙ d.same);
      due = omega (arith, f.1, d.due, ap (λ (x : Held). x.due) whole);
    }

module _ {A : Type 0} (m : UnitModel A) (keeps : Keeps m) (j : Job) where
  -- the unit holds the job, due within n accepted steps
  abbrev Due : ℕ → A → Type 0
  Due n u = DueIn n j (m.held u j.tag)

  -- a take that is refused changes nothing, and one that is not has another tag
  after_take : (n : ℕ) (u : A) (k : Job) (u' : A) (b : Bool) → room_for m u k.word ≡ b → m.sound u
      → Fresh m u k → Taken m b u k u' → Due n u → Due n u' × m.sound u'
  after_take n u k u' true e s fresh t d =
      let other : j.tag ≡ k.tag → ⊥ = λ q. absurd (none-some d.held (sym (fresh e) ∙ ap (m.held u) (sym q) ∙ d.is)) in
      let joined = t s (fresh e) in
      (after_fall 0 n n j (m.held u j.tag) (m.held u' j.tag) (omega arith) (joined.0.others j.tag other) d, joined.1)
  after_take n u k u' false e s fresh t d = (subst (Due n) (sym t) d, subst m.sound (sym t) s)

  -- an offer under the job's tag is the job's outcome
  offers-job : (n : ℕ) (u : A) (o : Option Offer) → m.offer u ≡ o → offers_tag o j.tag ≡ true → m.sound u → Due n u → OffersJob m u j
  offers-job n u None e f s d = absurd (false≢true f)
  offers-job n u (Some o) e f s d =
      let tag : o.tag ≡ j.tag = eqb-true o.tag j.tag f in
      let offered = keeps.offers u s o e in
      let at : m.held u j.tag ≡ Some offered.0 = ap (m.held u) (sym tag) ∙ offered.1 in
      let whole : offered.0 ≡ d.held = let e = d.is in cc in
      let job : offered.0.job ≡ j = ap (λ (x : Held). x.job) whole ∙ d.same in
      (o, e, tag, ap job_outcome (sym job) ∙ offered.2)

  -- an accepted step offers the job, or it is due one step sooner
  after_accepted : (n : ℕ) (u u' : A) (b : Bool) → offers_tag (m.offer u) j.tag ≡ b → m.sound u
      → Moved true b (m.held u j.tag) (m.held u' j.tag) → Due (n + 1) u → OffersJob m u j ⊎ Due n u'
  after_accepted n u u' true e s moved d = inl (offers-job (n + 1) u (m.offer u) refl e s d)
  after_accepted n u u' false e s moved d =
      inr (after_fall 1 (n + 1) n j (m.held u j.tag) (m.held u' j.tag) (omega arith) moved d)

  -- a due is at least 1, so the run that lasts as long as the due delivers the job
  delivered : {u w : A} (run : Run m u w) → m.sound u → Due (accepted_steps m run) u → Delivers m run j
  delivered {u} end s d = absurd (omega (arith, d.due, keeps.dues u s j.tag d.held d.is))
  delivered {u} (take {v} k fresh call rest) s d =
      let after = after_take (accepted_steps m rest) u k v (room_for m u k.word) refl s fresh call.taken d in
      delivered rest after.1 after.0
  delivered {u} (step {v} true call rest) s d =
      let n = accepted_steps m rest in
      let after = call.stepped s in
      elim (after_accepted n u v (offers_tag (m.offer u) j.tag) refl s (after.0 j.tag) d) [
        | inl offers ↦ inl offers
        | inr due ↦ inr (delivered rest after.1 due)
      ]
  delivered {u} (step {v} false call rest) s d =
      let n = accepted_steps m rest in
      let after = call.stepped s in
      delivered rest after.1 (after_fall 0 n n j (m.held u j.tag) (m.held v j.tag) (omega arith) (after.0 j.tag) d)

-- a job that was just taken is due within the longest stay
due_in_stay : (n : ℕ) (j : Job) (o : Option Held) → Holds j o → ((h : Held) → o ≡ Some h → h.due ≤ n) → DueIn n j o
due_in_stay n j None e due = absurd e
due_in_stay n j (Some h) e due = record { held = h; is = refl; same = e; due = due h refl }

module _ {A : Type 0} (m : UnitModel A) (keeps : Keeps m) where
  pub offered-within-stay : OfferedWithinStay m
  offered-within-stay u v w j s room fresh call run long =
      let taken : Taken m true u j v = subst (λ (b : Bool). Taken m b u j v) room call.taken in
      let joined = taken s fresh in
      delivered m keeps j run joined.1
      (due_in_stay (accepted_steps m run) j (m.held v j.tag) joined.0.joins
      (λ h e. omega (arith, (keeps.dues v joined.1 j.tag h e).1, call.same.stay, long)))
