-- What a functional unit means, whatever is inside it.
-- Assumes nothing.
use Rattle.std.specs.Prelude.{◌≡◌, ℕ, ◌+◌, ◌≤◌, Bool, true, false, Some, None, Ok, Err, Option, Result, ◌==◌, ◌≢◌}
use Rattle.isa.specs.declared.operation.Class.{Class}
use Rattle.refusal.specs.declared.NoRoom.{NoRoom}
use Rattle.units.specs.declared.job.Job.{Job}
use Rattle.units.specs.declared.job.Offer.{Offer}
use Rattle.units.specs.Jobs.{word_class, job_outcome}

-- a job that a unit holds, and the accepted steps that it stays at most: its due
pub record Held : Type 0 where
  pub job : Job
  pub due : ℕ

-- a unit by what can be asked of it
pub record UnitModel (A : Type 0) : Type 1 where
  -- since the last clear no tag was taken while it was held; of any other unit nothing is promised
  pub sound : A → Type 0
  -- its classes, and its longest stay: both stay as they are
  pub serves : A → Class → Bool
  pub stay : A → ℕ
  -- the job under a tag
  pub held : A → ℕ → Option Held
  -- whether a class can be taken now
  pub room : A → Class → Bool
  -- what is offered now
  pub offer : A → Option Offer

-- two models that say the same of a unit
pub record SameModel {A : Type 0} (m n : UnitModel A) : Type 0 where
  pub sound : (u : A) → (m.sound u → n.sound u) × (n.sound u → m.sound u)
  pub serves : m.serves ≡ n.serves
  pub stay : m.stay ≡ n.stay
  pub held : m.held ≡ n.held
  pub room : m.room ≡ n.room
  pub offer : m.offer ≡ n.offer

-- what holds of one state -----------------------------------------------------

module _ {A : Type 0} (m : UnitModel A) where
  -- a job stays at least one and at most `stay` accepted steps
  abbrev pub Dues : A → Type 0
  Dues u = (t : ℕ) (h : Held) → m.held u t ≡ Some h → (1 ≤ h.due) × (h.due ≤ m.stay u)

  -- a job is held under its own tag
  abbrev pub Tags : A → Type 0
  Tags u = (t : ℕ) (h : Held) → m.held u t ≡ Some h → h.job.tag ≡ t

  -- what is offered is the outcome of a held job
  abbrev pub Offers : A → Type 0
  Offers u = (o : Offer) → m.offer u ≡ Some o → (h : Held) × (m.held u o.tag ≡ Some h) × (job_outcome h.job ≡ Some o.outcome)

  -- no room for a class that is not served
  abbrev pub Rooms : A → Type 0
  Rooms u = (c : Class) → m.room u c ≡ true → m.serves u c ≡ true

  -- without jobs there is room for every class that is served
  abbrev pub EmptyRooms : A → Type 0
  EmptyRooms u = ((t : ℕ) → m.held u t ≡ None) → (c : Class) → m.serves u c ≡ true → m.room u c ≡ true

-- what a call does --------------------------------------------------------------

-- classes and longest stay are what they were
pub record Same {A : Type 0} (m : UnitModel A) (u u' : A) : Type 0 where
  pub serves : (c : Class) → m.serves u' c ≡ m.serves u c
  pub stay : m.stay u' ≡ m.stay u

-- what is held under a tag, before and after: the same job with a due lower by at least k, or nothing both times
abbrev pub Fell : ℕ → Option Held → Option Held → Type 0
Fell k None None = Unit {0}
Fell k None (Some h) = ⊥
Fell k (Some h) None = ⊥
Fell k (Some h) (Some h') = (h'.job ≡ h.job) × (h'.due + k ≤ h.due)

-- whether a unit has room for a word: it has none for one without a class
abbrev pub room_in : (Class → Bool) → Option Class → Bool
room_in room (Some c) = room c
room_in room None = false

abbrev pub room_for : {A : Type 0} → UnitModel A → A → ℕ → Bool
room_for m u w = room_in (m.room u) (word_class w)

-- take answers by room alone
abbrev pub take_answer : Bool → Result (Unit {0}) NoRoom
take_answer true = Ok tt
take_answer false = Err (record {})

abbrev pub Holds : Job → Option Held → Type 0
Holds j None = ⊥
Holds j (Some h) = h.job ≡ j

-- with room, and under a tag that is not held: that job joins, no other leaves and no other due rises
pub record Joined {A : Type 0} (m : UnitModel A) (u : A) (j : Job) (u' : A) : Type 0 where
  pub joins : Holds j (m.held u' j.tag)
  pub others : (t : ℕ) → (t ≢ j.tag) → Fell 0 (m.held u t) (m.held u' t)

-- without room: the unit is what it was
abbrev pub Taken : {A : Type 0} → UnitModel A → Bool → A → Job → A → Type 0
Taken m true u j u' = m.sound u → m.held u j.tag ≡ None → Joined m u j u' × m.sound u'
Taken m false u j u' = u' ≡ u

-- whether a tag is the offered one
abbrev pub offers_tag : Option Offer → ℕ → Bool
offers_tag None t = false
offers_tag (Some o) t = o.tag == t

-- of one tag in a step: first whether the offer was accepted, then whether the tag was offered
abbrev pub Moved : Bool → Bool → Option Held → Option Held → Type 0
Moved true true h h' = h' ≡ None
Moved true false h h' = Fell 1 h h'
Moved false b h h' = Fell 0 h h'

abbrev pub Stepped : {A : Type 0} → UnitModel A → A → Bool → A → Type 0
Stepped m u accepted u' = (t : ℕ) → Moved accepted (offers_tag (m.offer u) t) (m.held u t) (m.held u' t)

abbrev pub Empty : {A : Type 0} → UnitModel A → A → Type 0
Empty m u = (t : ℕ) → m.held u t ≡ None
