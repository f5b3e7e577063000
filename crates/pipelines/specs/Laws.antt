-- A pipeline keeps the laws of a unit, whatever its latency L, its capacity N and its classes.
-- Assumes nothing.
use Rattle.std.specs.Prelude.{◌≡◌, ℕ, ◌<◌, Bool, true, false, cond, List, [], ◌∷◌, length, Some, None, Option, nat_le, nat_lt, refl}
use Rattle.std.proofs.Common.{sym, ap, subst, arith}
use Rattle.std.proofs.lemmas.Option.{same_Some}
use Rattle.std.proofs.lemmas.Bool.{and_parts, and_from, ltb-true, lt-ltb, eq-eqb}
use Rattle.isa.specs.declared.operation.Class.{Class}
use Rattle.isa.specs.declared.outcome.Outcome.{Outcome}
use Rattle.units.specs.declared.job.Job.{Job}
use Rattle.units.specs.declared.job.Offer.{Offer}
use Rattle.units.specs.Jobs.{word_class, job_outcome, offer_of}
use Rattle.units.specs.Meaning.{Held, UnitModel, Dues, Tags, Offers, Rooms, EmptyRooms, Same, room_in, Fell, Holds, Moved, offers_tag, Taken, Stepped}
use Rattle.units.specs.Calls.{Keeps}
use Rattle.units.proofs.Classed.{classed_outcome}
use Rattle.pipelines.specs.declared.queue.Timed.{Timed}
use Rattle.pipelines.specs.Queues.{pushed, stepped}
use Rattle.pipelines.specs.Pipelines.{held_after, held_from, offered, room_left, pipeline, taken, Sound}
use Rattle.pipelines.specs.Dues.{InTurn, if_held, in_turn, none_tagged, joins, others}
use Rattle.pipelines.specs.Steps.{moves, sound-stepped, sound-pushed}

-- the oldest job is held
head-held : (L : ℕ) (x : Timed) (xs : List Timed)
    → held_from L 0 (x ∷ xs) x.job.tag ≡ Some (held_after L 0 x)
head-held L x xs = rw (eq-eqb x.job.tag x.job.tag refl)

-- what is offered is a job's outcome, under its tag
offer_of_lem : (j : Job) (r : Option Outcome) (b : Bool) (o : Offer) → cond b (offer_of j r) None ≡ Some o
    → (j.tag ≡ o.tag) × (r ≡ Some o.outcome)
offer_of_lem j (Some v) true o e =
    let i = same_Some (record { tag = j.tag; outcome = v }) o e in
    (ap (λ (x : Offer). x.tag) i, ap (λ (x : Offer). Some x.outcome) i)
offer_of_lem j None true o e = absurd cc
offer_of_lem j r false o e = absurd cc

-- an offer is of the oldest job
offer-held : (L : ℕ) (xs : List Timed) (o : Offer) → offered L xs ≡ Some o
    → (h : Held) × (held_from L 0 xs o.tag ≡ Some h) × (job_outcome h.job ≡ Some o.outcome)
offer-held L [] o e = absurd cc
offer-held L (x ∷ xs) o e =
    let h = held_after L 0 x in
    let i = offer_of_lem x.job (job_outcome x.job) (nat_le L x.passed) o e in
    (h, subst (λ t. held_from L 0 (x ∷ xs) t ≡ Some h) i.0 (head-held L x xs), i.1)

-- where nothing is held there is no job
empty-length : (L : ℕ) (xs : List Timed) → ((t : ℕ) → held_from L 0 xs t ≡ None) → length xs ≡ 0
empty-length L [] none = refl
empty-length L (x ∷ xs) none = absurd ((none_tagged L 0 (x ∷ xs) x.job.tag (none x.job.tag)).0 refl)

-- room for a word is room for its class
room-class : (room : Class → Bool) (k : Option Class) → room_in room k ≡ true → (c : Class) × (k ≡ Some c) × (room c ≡ true)
room-class room (Some c) e = (c, refl, e)
room-class room None e = absurd cc

module _ {A : Type 0} (L N : ℕ) (serves : Class → Bool) (jobs : A → List Timed) where
  abbrev unit : UnitModel A
  unit = pipeline L N serves jobs

  pub dues : (u : A) → Sound N (jobs u) → Dues unit u
  dues u s t h e =
      let i = if_held (InTurn L 0 (length (jobs u)) t) (held_from L 0 (jobs u) t) h (in_turn L 0 (jobs u) t) e in
      (omega (arith, i.later), omega (arith, i.soon, s.few))

  pub tags : (u : A) → Tags unit u
  tags u t h e =
      (if_held (InTurn L 0 (length (jobs u)) t) (held_from L 0 (jobs u) t) h (in_turn L 0 (jobs u) t) e).tagged

  pub offers : (u : A) → Offers unit u
  offers u o e = offer-held L (jobs u) o e

  pub rooms : (u : A) → Rooms unit u
  rooms u c e = (and_parts (serves c) (nat_lt (length (jobs u)) N) e).0

  pub empty-rooms : 0 < N → (u : A) → EmptyRooms unit u
  empty-rooms some u none c e =
      let l = empty-length L (jobs u) none in
      and_from (serves c) (nat_lt (length (jobs u)) N) e (lt-ltb (length (jobs u)) N (omega arith))

  pub keeps : 0 < N → Keeps unit
  keeps some = record {
    stays = λ u. omega (arith, some);
    dues = dues;
    tags = λ u s. tags u;
    offers = λ u s. offers u;
    rooms = rooms;
    empty_rooms = λ u s. empty-rooms some u;
  }

  pub same : (u u' : A) → Same unit u u'
  same u u' = record { serves = λ c. refl; stay = refl }

  pub steps : (u u' : A) (accepted : Bool) → jobs u' ≡ stepped L accepted (jobs u)
      → Sound N (jobs u) → Stepped unit u accepted u' × Sound N (jobs u')
  steps u u' accepted e s =
      subst (λ ys. ((t : ℕ) → Moved accepted (offers_tag (offered L (jobs u)) t) (held_from L 0 (jobs u) t) (held_from L 0 ys t)) × Sound N ys)
      (sym e)
      (moves L accepted (jobs u) s.worked s.apart, sound-stepped L N accepted (jobs u) s)

  -- room for a job: it has an outcome, and a place
  fits : (u : A) (j : Job) → room_in (room_left N serves (jobs u)) (word_class j.word) ≡ true
      → (length (jobs u) < N) × ((o : Outcome) × (job_outcome j ≡ Some o))
  fits u j e =
      let k = room-class (room_left N serves (jobs u)) (word_class j.word) e in
      (ltb-true (length (jobs u)) N (and_parts (serves k.0) (nat_lt (length (jobs u)) N) k.2).1, classed_outcome j k.0 k.1)

  takes_if : (u u' : A) (j : Job) (room : Bool)
      → (room ≡ true → (length (jobs u) < N) × ((o : Outcome) × (job_outcome j ≡ Some o)))
      → (room ≡ false → u' ≡ u) → jobs u' ≡ cond room (pushed j (jobs u)) (jobs u)
      → Taken unit room u j u'
  takes_if u u' j false fit refused e = refused refl
  takes_if u u' j true fit refused e = λ s none.
      let n = none_tagged L 0 (jobs u) j.tag none in
      let f = fit refl in (
        record {
          joins = subst (λ ys. Holds j (held_from L 0 ys j.tag)) (sym e) (joins L 0 (jobs u) j n);
          others = λ t ne. subst (λ ys. Fell 0 (held_from L 0 (jobs u) t) (held_from L 0 ys t)) (sym e) (others L 0 (jobs u) j t ne);
        },
        subst (Sound N) (sym e) (sound-pushed N j (jobs u) f.0 f.1.0 f.1.1 n s),
      )

  pub takes : (u u' : A) (j : Job) → (room_in (room_left N serves (jobs u)) (word_class j.word) ≡ false → u' ≡ u)
      → jobs u' ≡ taken N serves j (jobs u)
      → Taken unit (room_in (room_left N serves (jobs u)) (word_class j.word)) u j u'
  takes u u' j = takes_if u u' j (room_in (room_left N serves (jobs u)) (word_class j.word)) (fits u j)
