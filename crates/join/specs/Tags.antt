-- What a join holds under one tag, by what its sides hold under it.
-- Assumes nothing.
use Rattle.std.proofs.Common.{◌≡◌, ℕ, ◌+◌, ◌≤◌, Bool, true, false, Some, None, Option, sym, refl, subst, arith}
use Rattle.std.proofs.lemmas.Option.{none-some}
use Rattle.units.specs.declared.job.Job.{Job}
use Rattle.units.specs.Meaning.{Held, Fell, Holds}
use Rattle.join.specs.Joined.{doubled_due, doubled, side_held, first_of, Apart}

-- what falls ------------------------------------------------------------------------

pub fell_same : (x : Option Held) → Fell 0 x x
fell_same None = tt
fell_same (Some h) = (refl, omega arith)

first_fell : (k : ℕ) (x x' y y' : Option Held) → Fell k x x' → Fell k y y' → Fell k (first_of x y) (first_of x' y')
first_fell k None None y y' f g = g
first_fell k None (Some h') y y' f g = absurd f
first_fell k (Some h) None y y' f g = absurd f
first_fell k (Some h) (Some h') y y' f g = f

due-stays : (turn : Bool) (d d' : ℕ) → d' + 0 ≤ d → doubled_due turn d' + 0 ≤ doubled_due turn d
due-stays true d d' h = omega arith
due-stays false d d' h = omega arith

held_stays : (turn : Bool) (x x' : Option Held) → Fell 0 x x' → Fell 0 (side_held turn x) (side_held turn x')
held_stays turn None None f = tt
held_stays turn None (Some h') f = absurd f
held_stays turn (Some h) None f = absurd f
held_stays turn (Some h) (Some h') f = (f.0, due-stays turn h.due h'.due f.1)

pub both_stay : (turn turn' : Bool) (x x' y y' : Option Held) → Fell 0 x x' → Fell 0 y y'
    → Fell 0 (first_of (side_held turn x) (side_held turn' y)) (first_of (side_held turn x') (side_held turn' y'))
both_stay turn turn' x x' y y' f g =
    first_fell 0 (side_held turn x) (side_held turn x') (side_held turn' y) (side_held turn' y') (held_stays turn x x' f) (held_stays turn' y y' g)

-- apart -----------------------------------------------------------------------------

-- what is held after was held before
abbrev Lasts : Option Held → Option Held → Type 0
Lasts None None = Unit {0}
Lasts None (Some h') = ⊥
Lasts (Some h) x' = Unit {0}

apart-lasts : (x x' y y' : Option Held) → Lasts x x' → Lasts y y' → Apart x y → Apart x' y'
apart-lasts x None y y' f g a = tt
apart-lasts x (Some h') y None f g a = tt
apart-lasts None (Some h') y (Some k') f g a = absurd f
apart-lasts (Some h) (Some h') None (Some k') f g a = absurd g
apart-lasts (Some h) (Some h') (Some k) (Some k') f g a = absurd a

fell-lasts : (k : ℕ) (x x' : Option Held) → Fell k x x' → Lasts x x'
fell-lasts k None None f = tt
fell-lasts k None (Some h') f = f
fell-lasts k (Some h) x' f = tt

pub apart-fell : (x x' y y' : Option Held) → Fell 0 x x' → Fell 0 y y' → Apart x y → Apart x' y'
apart-fell x x' y y' f g = apart-lasts x x' y y' (fell-lasts 0 x x' f) (fell-lasts 0 y y' g)

pub apart_right : (h : Held) (x y : Option Held) → y ≡ Some h → Apart x y → x ≡ None
apart_right h None y e a = refl
apart_right h (Some k) None e a = absurd (none-some h e)
apart_right h (Some k) (Some k') e a = absurd a

pub apart_none : (x y : Option Held) → (x ≡ None) → Apart x y
apart_none None y e = tt
apart_none (Some h) y e = absurd (none-some h (sym e))

pub none_apart : (x y : Option Held) → (y ≡ None) → Apart x y
none_apart None y e = tt
none_apart (Some h) None e = tt
none_apart (Some h) (Some k) e = absurd (none-some k (sym e))

-- one tag of both sides -------------------------------------------------------------

pub holds_first : (turn turn' : Bool) (j : Job) (x y : Option Held) → Holds j (first_of x y) → Holds j (first_of (side_held turn x) (side_held turn' y))
holds_first turn turn' j (Some h) y e = e
holds_first turn turn' j None (Some k) e = e
holds_first turn turn' j None None e = e

pub holds_left : (j : Job) (x y : Option Held) → Holds j x → Holds j (first_of x y)
holds_left j None y e = absurd e
holds_left j (Some h) y e = e

pub holds_right : (j : Job) (x y : Option Held) → x ≡ None → Holds j y → Holds j (first_of x y)
holds_right j None y none e = e
holds_right j (Some h) y none e = absurd (none-some h (sym none))

pub first_empty : (turn turn' : Bool) (x y : Option Held) → first_of (side_held turn x) (side_held turn' y) ≡ None → (x ≡ None) × (y ≡ None)
first_empty turn turn' (Some h) y e = absurd (none-some (doubled turn h) (sym e))
first_empty turn turn' None (Some k) e = absurd (none-some (doubled turn' k) (sym e))
first_empty turn turn' None None e = (refl, refl)

-- what holds of what either side holds holds of what the join holds
pub by_side : (P : Held → Type 0) (turn turn' : Bool) (x y : Option Held)
    → ((h : Held) → x ≡ Some h → P (doubled turn h)) → ((h : Held) → y ≡ Some h → P (doubled turn' h))
    → (h : Held) → first_of (side_held turn x) (side_held turn' y) ≡ Some h → P h
by_side P turn turn' (Some k) y left right h e = subst P (cc) (left k refl)
by_side P turn turn' None (Some k) left right h e = subst P (cc) (right k refl)
by_side P turn turn' None None left right h e = absurd (none-some h e)
