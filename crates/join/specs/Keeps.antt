-- A join of two units keeps what a unit keeps.
-- Assumes nothing.
use Rattle.std.proofs.Common.{◌≡◌, ℕ, ◌*◌, ◌≤◌, max, Bool, true, false, not, ◌⊎◌, Some, None, Option, ap, ◌∙◌, inl, inr, arith}
use Rattle.std.proofs.lemmas.Bool.{or_cases, or_left, or_right}
use Rattle.units.specs.declared.job.Offer.{Offer}
use Rattle.units.specs.Meaning.{UnitModel, Held, Dues, Tags, Offers, Rooms, EmptyRooms}
use Rattle.units.specs.Calls.{Keeps}
use Rattle.join.specs.declared.Join.{Join}
use Rattle.join.specs.Joined.{offered, doubled_due, doubled, side_held, first_of, join_means, Sound}
use Rattle.join.specs.Tags.{by_side, apart_right, first_empty}

-- a due of a side, at most n, in the join
due-within : (turn : Bool) (d n most : ℕ) → (1 ≤ d) × (d ≤ n) → n ≤ most → (1 ≤ doubled_due turn d) × (doubled_due turn d ≤ 2 * most)
due-within true d n most h le = (omega (arith, h.0), omega (arith, h.1))
due-within false d n most h le = (omega (arith, h.0), omega (arith, h.1))

-- what the join offers, one side offers
offered_by : (right : Bool) (l r : Option Offer) (o : Offer) → offered right l r ≡ Some o → (l ≡ Some o) ⊎ (r ≡ Some o)
offered_by true (Some l) (Some r) o e = inr e
offered_by false (Some l) (Some r) o e = inl e
offered_by right (Some l) None o e = inl e
offered_by right None r o e = inr e

module _ {A B : Type 0} (l : UnitModel A) (r : UnitModel B) (kl : Keeps l) (kr : Keeps r) where
  dues : (u : Join A B) → Sound l r u → Dues (join_means l r) u
  dues u s t =
      let most = max (l.stay u.left) (r.stay u.right) in
      by_side (λ (h : Held). (1 ≤ h.due) × (h.due ≤ 2 * most)) (not u.right_turn) u.right_turn (l.held u.left t) (r.held u.right t)
      (λ h e. due-within (not u.right_turn) h.due (l.stay u.left) most (kl.dues u.left s.left t h e) (omega arith))
      (λ h e. due-within u.right_turn h.due (r.stay u.right) most (kr.dues u.right s.right t h e) (omega arith))

  tags : (u : Join A B) → Sound l r u → Tags (join_means l r) u
  tags u s t =
      by_side (λ (h : Held). h.job.tag ≡ t) (not u.right_turn) u.right_turn (l.held u.left t) (r.held u.right t)
      (kl.tags u.left s.left t) (kr.tags u.right s.right t)

  offers : (u : Join A B) → Sound l r u → Offers (join_means l r) u
  offers u s o e =
      let turn = u.right_turn in
      let x = l.held u.left o.tag in
      let y = r.held u.right o.tag in
      elim (offered_by turn (l.offer u.left) (r.offer u.right) o e) [
        | inl f ↦
            let h = kl.offers u.left s.left o f in
            (doubled (not turn) h.0, ap (λ (z : Option Held). first_of (side_held (not turn) z) (side_held turn y)) h.1, h.2)
        | inr f ↦
            let h = kr.offers u.right s.right o f in
            let gone = apart_right h.0 x y h.1 (s.apart o.tag) in
            (doubled turn h.0, ap (λ (z : Option Held). first_of (side_held (not turn) z) (side_held turn y)) gone ∙ ap (side_held turn) h.1, h.2)
      ]

  rooms : (u : Join A B) → Rooms (join_means l r) u
  rooms u c e =
      elim (or_cases (l.room u.left c) (r.room u.right c) e) [
        | inl f ↦ or_left (l.serves u.left c) (r.serves u.right c) (kl.rooms u.left c f)
        | inr f ↦ or_right (l.serves u.left c) (r.serves u.right c) (kr.rooms u.right c f)
      ]

  empty-rooms : (u : Join A B) → Sound l r u → EmptyRooms (join_means l r) u
  empty-rooms u s empty c e =
      let sides = λ (t : ℕ). first_empty (not u.right_turn) u.right_turn (l.held u.left t) (r.held u.right t) (empty t) in
      elim (or_cases (l.serves u.left c) (r.serves u.right c) e) [
        | inl f ↦ or_left (l.room u.left c) (r.room u.right c) (kl.empty_rooms u.left s.left (λ t. (sides t).0) c f)
        | inr f ↦ or_right (l.room u.left c) (r.room u.right c) (kr.empty_rooms u.right s.right (λ t. (sides t).1) c f)
      ]

  pub join_keeps : Keeps (join_means l r)
  join_keeps = record {
    stays = λ u. omega (arith, kl.stays u.left);
    dues = dues;
    tags = tags;
    offers = offers;
    rooms = rooms;
    empty_rooms = empty-rooms;
  }
