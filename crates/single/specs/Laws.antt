-- The single-job unit keeps the meaning of a unit.
-- Assumes nothing.
use Rattle.std.specs.Prelude.{◌≡◌, ℕ, Bool, true, cond, ◌&&◌, Some, None, Option, refl}
use Rattle.std.proofs.Common.{sym, ap, subst, ◌∙◌, rules}
use Rattle.std.proofs.lemmas.Bool.{eq-eqb, ne_eqb}
use Rattle.isa.specs.declared.operation.Class.{Class}
use Rattle.isa.specs.declared.operation.Class.TheVariants.{Plain, Multiply, Divide, Transfer}
use Rattle.units.specs.declared.job.Job.{Job}
use Rattle.units.specs.declared.job.Offer.{Offer}
use Rattle.units.specs.Jobs.{word_class, job_outcome, offer_of}
use Rattle.units.specs.Meaning.{Held, Fell, Holds, Joined, Taken, room_in}
use Rattle.units.specs.Calls.{Keeps}
use Rattle.units.proofs.Classed.{classed_outcome}
use Rattle.single.specs.declared.Single.{Single}
use Rattle.single.specs.Single.{serves_plain, held_in, offer_in, room_beside, single, Sound}

abbrev with : Option Job → Single
with o = record { job = o }

held_here : (j : Job) → held_in (Some j) j.tag ≡ Some (record { job = j; due = 1 })
held_here j = ap (λ b. cond b (Some (record { job = j; due = 1 })) None) (eq-eqb j.tag j.tag refl)

-- what is offered is its job's outcome
pub offers : (o : Option Job) → Sound o → (x : Offer) → offer_in o ≡ Some x
    → (h : Held) × (held_in o x.tag ≡ Some h) × (job_outcome h.job ≡ Some x.outcome)
offers None s x e = absurd cc
offers (Some j) s x e =
    let given : Some (record { tag = j.tag; outcome = s.0 }) ≡ Some x = ap (offer_of j) (sym s.1) ∙ e in
    let same : ◌≡◌ {A = Offer} (record { tag = j.tag; outcome = s.0 }) x = cc in
    let tag : j.tag ≡ x.tag = ap (λ (y : Offer). y.tag) same in
    let out : s.0 ≡ x.outcome = ap (λ (y : Offer). y.outcome) same in
    (record { job = j; due = 1 }, ap (held_in (Some j)) (sym tag) ∙ held_here j, s.1 ∙ ap Some out)

-- without a job there is room for what is served
pub empty-rooms : (o : Option Job) → ((t : ℕ) → held_in o t ≡ None) → (c : Class) → serves_plain c ≡ true → room_beside o c ≡ true
empty-rooms None h c e = ap (λ b. b && true) e
empty-rooms (Some j) h c e =
    let gone = sym (held_here j) ∙ h j.tag in
    absurd cc

pub keeps : Keeps single
keeps = record {
  stays = Prim.search rules;
  dues = Prim.search rules;
  tags = Prim.search rules;
  offers = λ u. offers u.job;
  rooms = Prim.search rules;
  empty_rooms = λ u s. empty-rooms u.job;
}

-- room means that there was no job, and that the word's class is served
abbrev Takes : Option Job → Option Job → Job → Option Class → Type 0
Takes o o' j k =
    o' ≡ cond (room_in (room_beside o) k) (Some j) o → (word_class j.word ≡ k)
    → Taken single (room_in (room_beside o) k) (with o) j (with o')

refused : (o o' : Option Job) → o' ≡ o → with o' ≡ with o
refused o o' e = ap with e

joined : (o' : Option Job) (j : Job) (c : Class) → o' ≡ Some j → word_class j.word ≡ Some c
    → Joined single (with None) j (with o') × Sound o'
joined o' j c e k =
    let due : Held = record { job = j; due = 1 } in
    subst (λ (q : Option Job). Joined single (with None) j (with q) × Sound q) (sym e) (
      record {
        joins = subst (Holds j) (sym (held_here j)) refl;
        others = λ t ne. subst (λ (b : Bool). Fell 0 None (cond b (Some due) None)) (sym (ne_eqb j.tag t (λ same. ne (sym same)))) tt;
      },
      classed_outcome j c k,
    )

pub takes : (o o' : Option Job) (j : Job) (k : Option Class) → Takes o o' j k
takes o o' j None e k = refused o o' e
takes (Some i) o' j (Some Plain) e k = refused (Some i) o' e
takes (Some i) o' j (Some Multiply) e k = refused (Some i) o' e
takes (Some i) o' j (Some Divide) e k = refused (Some i) o' e
takes (Some i) o' j (Some Transfer) e k = refused (Some i) o' e
takes None o' j (Some Plain) e k = λ s h. joined o' j Plain e k
takes None o' j (Some Multiply) e k = refused None o' e
takes None o' j (Some Divide) e k = refused None o' e
takes None o' j (Some Transfer) e k = refused None o' e
