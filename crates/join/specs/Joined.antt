-- What a join means, by what its two sides mean.
-- Assumes nothing.
use Rattle.std.specs.Prelude.{ℕ, ◌-◌, ◌*◌, max, Bool, true, false, cond, not, ◌&&◌, ◌||◌, Some, None, Option}
use Rattle.std.specs.Option.{option_or}
use Rattle.units.specs.declared.job.Offer.{Offer}
use Rattle.units.specs.Meaning.{UnitModel, Held}
use Rattle.join.specs.declared.Join.{Join}

-- two units as one, with the turn at the left
abbrev pub joined : {A B : Type 0} → A → B → Join A B
joined left right = record { left = left; right = right; right_turn = false }

-- offers ------------------------------------------------------------------------

abbrev pub contested : Option Offer → Option Offer → Bool
contested (Some l) (Some r) = true
contested (Some l) None = false
contested None r = false

-- where both offer, the side whose turn it is
abbrev pub offered : Bool → Option Offer → Option Offer → Option Offer
offered right (Some l) (Some r) = Some (cond right r l)
offered right (Some l) None = Some l
offered right None r = r

-- an accepted step at which both offered passes the turn
abbrev pub turned : Bool → Bool → Bool → Bool
turned accepted both right = cond (accepted && both) (not right) right

-- whether a side steps accepted: where both offered, only the side whose turn it was
abbrev pub granted : Bool → Bool → Bool → Bool
granted accepted both turn = cond (accepted && both) turn accepted

-- dues --------------------------------------------------------------------------

-- a side is refused at most every other time: its dues count double, and one less at its turn
abbrev pub doubled_due : Bool → ℕ → ℕ
doubled_due true d = 2 * d - 1
doubled_due false d = 2 * d

abbrev pub doubled : Bool → Held → Held
doubled turn h = record { job = h.job; due = doubled_due turn h.due }

abbrev pub side_held : Bool → Option Held → Option Held
side_held turn None = None
side_held turn (Some h) = Some (doubled turn h)

abbrev pub first_of : Option Held → Option Held → Option Held
first_of = option_or

-- what is sound ---------------------------------------------------------------

abbrev pub Apart : Option Held → Option Held → Type 0
Apart (Some h) (Some k) = ⊥
Apart (Some h) None = Unit {0}
Apart None k = Unit {0}

-- both sides are sound, and no tag is held on both
pub record Sound {A B : Type 0} (l : UnitModel A) (r : UnitModel B) (j : Join A B) : Type 0 where
  pub left : l.sound j.left
  pub right : r.sound j.right
  pub apart : (t : ℕ) → Apart (l.held j.left t) (r.held j.right t)

-- the model ----------------------------------------------------------------------

abbrev pub join_means : {A B : Type 0} → UnitModel A → UnitModel B → UnitModel (Join A B)
join_means l r = record {
  sound = Sound l r;
  serves = λ j c. l.serves j.left c || r.serves j.right c;
  stay = λ j. 2 * max (l.stay j.left) (r.stay j.right);
  held = λ j t. first_of (side_held (not j.right_turn) (l.held j.left t)) (side_held j.right_turn (r.held j.right t));
  room = λ j c. l.room j.left c || r.room j.right c;
  offer = λ j. offered j.right_turn (l.offer j.left) (r.offer j.right);
}
