-- The states that follow meet what a unit promises.
-- Assumes nothing.
use Rattle.std.specs.Prelude.{◌≡◌, ℕ, ◌+◌, ◌-◌, ◌^◌, ◌<◌, ◌≤◌, Bool, true, false, cond, Some, None, Ok, Err, Option, Result, ◌==◌, refl}
use Rattle.std.proofs.Math.Decide.{dec_lt}
use Rattle.std.proofs.Common.{arith, sym, ap, subst}
use Rattle.std.proofs.lemmas.Bool.{eq-eqb, ne_eqb, eqb-true}
use Rattle.std.proofs.lemmas.Option.{none-some}
use Rattle.refusal.specs.declared.NoRoom.{NoRoom}
use Rattle.isa.specs.declared.operation.Class.{Class}
use Rattle.units.specs.declared.job.Job.{Job}
use Rattle.units.specs.declared.job.Offer.{Offer}
use Rattle.units.specs.Jobs.{word_class, job_outcome}
use Rattle.units.specs.Meaning.{Held, Fell, Moved, room_in, room_for, take_answer, Taken, Stepped}
use Rattle.units.specs.Calls.{Keeps}
use Rattle.divider.specs.declared.Divider.{Divider}
use Rattle.divider.specs.declared.division.Division.{Division}
use Rattle.divider.specs.declared.working.Working.{Working as Work}
use Rattle.divider.specs.declared.state.State.{State}
use Rattle.divider.specs.declared.state.State.TheVariants.{Idle, Working, Finished}
use Rattle.divider.specs.Divisions.{is_divide}
use Rattle.divider.specs.States.{start_of, step_or, admitted, taken, took_in, stepped, stepped_in}
use Rattle.divider.specs.Model.{held_under, held_in, room_of, outcome_in, offer_of, model, Sound, SoundState}
use Rattle.divider.specs.ValuesLemmas.{word_room, word_no_room, job-done}

-- the one job ------------------------------------------------------------------

abbrev held_if : Bool → Job → ℕ → Option Held
held_if b job due = cond b (Some (record { job = job; due = due })) None

-- a job that is held is that one, under its tag
held_one : (b : Bool) (job : Job) (due : ℕ) (h : Held) → held_if b job due ≡ Some h
    → (b ≡ true) × (h.job ≡ job) × (h.due ≡ due)
held_one true job due h e = (refl, cc, cc)
held_one false job due h e = absurd (none-some h e)

fell : (b : Bool) (job : Job) (due due' k : ℕ) → due' + k ≤ due → Fell k (held_if b job due) (held_if b job due')
fell true job due due' k l = (refl, l)
fell false job due due' k l = tt

own_tag : (job : Job) → (job.tag == job.tag) ≡ true
own_tag job = eq-eqb job.tag job.tag refl

-- take -------------------------------------------------------------------------

-- there is room for a word that is admitted, and for no other
no_room : (x : Option Class) → room_in (λ c. false) x ≡ false
no_room (Some c) = refl
no_room None = refl

admitted-room : (s : State) (w : ℕ) (d : Division) → admitted s w ≡ Some d → room_in (room_of s) (word_class w) ≡ true
admitted-room Idle w d e = word_room w d e
admitted-room (Working v) w d e = absurd (none-some d e)
admitted-room (Finished f) w d e = absurd (none-some d e)

other_no_room : (s : State) (w : ℕ) → admitted s w ≡ None → room_in (room_of s) (word_class w) ≡ false
other_no_room Idle w e = word_no_room w e
other_no_room (Working v) w e = no_room (word_class w)
other_no_room (Finished f) w e = no_room (word_class w)

starts : (s : State) (job : Job) (d : Division) → admitted s job.word ≡ Some d → job.a < 2 ^ 32 → job.b < 2 ^ 32
    → Taken model true (record { state = s }) job (record { state = Working (start_of d job) })
starts Idle job d e h l sound free = (
  record {
    joins = rw (own_tag job);
    others = λ t apart. rw (ne_eqb job.tag t (λ e. apart (sym e))) tt;
  },
  (e, h, l),
)
starts (Working v) job d e h l sound free = absurd (none-some d e)
starts (Finished f) job d e h l sound free = absurd (none-some d e)

abbrev answer_to : Option Division → Result (Unit {0}) NoRoom
answer_to (Some d) = Ok tt
answer_to None = Err (record {})

module _ (u : Divider) (job : Job) where
  pub take_state : (x : Option Division) → admitted u.state job.word ≡ x
      → ◌≡◌ {A = Divider} (record { state = taken u.state x job }) (took_in u job)
  take_state x e = ap (λ (y : Option Division). record { state = taken u.state y job }) (sym e)

  pub take_answer_lem : (x : Option Division) → admitted u.state job.word ≡ x
      → answer_to x ≡ take_answer (room_for model u job.word)
  take_answer_lem (Some d) e = ap take_answer (sym (admitted-room u.state job.word d e))
  take_answer_lem None e = ap take_answer (sym (other_no_room u.state job.word e))

  pub take_meets : (x : Option Division) → admitted u.state job.word ≡ x → job.a < 2 ^ 32 → job.b < 2 ^ 32
      → Taken model (room_for model u job.word) u job (record { state = taken u.state x job })
  take_meets (Some d) e h l =
      subst (λ (r : Bool). Taken model r u job (record { state = Working (start_of d job) }))
      (sym (admitted-room u.state job.word d e)) (starts u.state job d e h l)
  take_meets None e h l =
      subst (λ (r : Bool). Taken model r u job u) (sym (other_no_room u.state job.word e)) refl

-- step -------------------------------------------------------------------------

-- of a job that is not offered
moved : (accepted b : Bool) (job : Job) (due due' : ℕ) → due' + 1 ≤ due
    → Moved accepted false (held_if b job due) (held_if b job due')
moved true b job due due' l = fell b job due due' 1 l
moved false b job due due' l = fell b job due due' 0 (omega arith)

abbrev Steps : Bool → State → State → Type 0
Steps accepted s s' = Stepped model (record { state = s }) accepted (record { state = s' }) × SoundState s'

idle-steps : (accepted : Bool) → Steps accepted Idle Idle
idle-steps true = (λ t. tt, tt)
idle-steps false = (λ t. tt, tt)

goes_on : (accepted : Bool) (w : Work) (x : Dec (w.steps + 1 < 32)) → SoundState (Working w)
    → Steps accepted (Working w) (step_or w x)
goes_on accepted w (yes h) sound =
    (λ t. moved accepted (w.job.tag == t) w.job (33 - w.steps) (33 - (w.steps + 1)) (omega arith), sound)
goes_on accepted w (no h) sound =
    let short = w.short in (
      λ t. moved accepted (w.job.tag == t) w.job (33 - w.steps) 1 (omega arith),
      job-done w.job w.division sound.0 sound.1 sound.2,
    )

-- the offered job leaves
leaves : (b : Bool) (job : Job) → Moved true b (held_if b job 1) None
leaves true job = refl
leaves false job = tt

steps : (accepted : Bool) (s : State) → SoundState s → Steps accepted s (stepped accepted s)
steps accepted Idle sound = idle-steps accepted
steps accepted (Working w) sound = goes_on accepted w (dec_lt (w.steps + 1) 32) sound
steps true (Finished f) sound = (λ t. leaves (f.job.tag == t) f.job, tt)
steps false (Finished f) sound = (λ t. fell (f.job.tag == t) f.job 1 1 0 (omega arith), sound)

pub step_meets : (accepted : Bool) (u : Divider) → Sound u
    → Stepped model u accepted (stepped_in accepted u) × Sound (stepped_in accepted u)
step_meets accepted u sound = steps accepted u.state sound

-- the laws ---------------------------------------------------------------------

abbrev Within : State → Type 0
Within s = (t : ℕ) (h : Held) → held_in s t ≡ Some h → (1 ≤ h.due) × (h.due ≤ 33)

pub within : (s : State) → Within s
within Idle t h e = absurd (none-some h e)
within (Working w) t h e =
    let short = w.short in
    let one = held_one (w.job.tag == t) w.job (33 - w.steps) h e in
    (omega (arith, one.2), omega (arith, one.2))
within (Finished f) t h e =
    let one = held_one (f.job.tag == t) f.job 1 h e in
    (omega (arith, one.2), omega (arith, one.2))

under_tag : (job : Job) (due t : ℕ) (h : Held) → held_under job due t ≡ Some h → h.job.tag ≡ t
under_tag job due t h e =
    let one = held_one (job.tag == t) job due h e in
    let own = eqb-true job.tag t one.0 in
    let same = one.1 in
    cc

pub tagged : (s : State) (t : ℕ) (h : Held) → held_in s t ≡ Some h → h.job.tag ≡ t
tagged Idle t h e = absurd (none-some h e)
tagged (Working w) t h e = under_tag w.job (33 - w.steps) t h e
tagged (Finished f) t h e = under_tag f.job 1 t h e

pub offered : (s : State) → SoundState s → (o : Offer) → offer_of s ≡ Some o
    → (h : Held) × (held_in s o.tag ≡ Some h) × (job_outcome h.job ≡ Some o.outcome)
offered Idle sound o e = absurd (none-some o e)
offered (Working w) sound o e = absurd (none-some o e)
offered (Finished f) sound o e =
    let mine : Offer = record { tag = f.job.tag; outcome = outcome_in f } in
    let same : mine ≡ o = cc in
    let held : held_in (Finished f) f.job.tag ≡ Some (record { job = f.job; due = 1 }) = rw (own_tag f.job) in
    subst (λ (o : Offer). (h : Held) × (held_in (Finished f) o.tag ≡ Some h) × (job_outcome h.job ≡ Some o.outcome)) same
    (record { job = f.job; due = 1 }, held, sound)

pub roomy : (s : State) (c : Class) → room_of s c ≡ true → is_divide c ≡ true
roomy Idle c e = e
roomy (Working w) c e = cc
roomy (Finished f) c e = cc

-- a held job is found under its tag
found : {P : Type 0} (job : Job) (due : ℕ) → held_under job due job.tag ≡ None → P
found job due e = absurd (none-some (record { job = job; due = due }) (sym (rw (own_tag job) at e)))

pub empty-roomy : (s : State) → ((t : ℕ) → held_in s t ≡ None) → (c : Class) → is_divide c ≡ true → room_of s c ≡ true
empty-roomy Idle none c e = e
empty-roomy (Working w) none c e = found w.job (33 - w.steps) (none w.job.tag)
empty-roomy (Finished f) none c e = found f.job 1 (none f.job.tag)

pub keeps : Keeps model
keeps = record {
  stays = λ u. omega arith;
  dues = λ u sound. within u.state;
  tags = λ u sound. tagged u.state;
  offers = λ u. offered u.state;
  rooms = λ u. roomy u.state;
  empty_rooms = λ u sound. empty-roomy u.state;
}
