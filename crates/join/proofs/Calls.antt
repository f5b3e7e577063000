-- What a call does to the sides of a join, it does to the join as a unit.
-- Assumes nothing.
use Rattle.std.proofs.Common.{◌≡◌, ℕ, Bool, true, false, not, ◌||◌, Some, None, Option, sym, refl, ap, ◌∙◌, subst, inl, inr}
use Rattle.std.proofs.lemmas.Bool.{cases_eq}
use Rattle.isa.specs.declared.operation.Class.{Class}
use Rattle.units.specs.declared.job.Job.{Job}
use Rattle.units.specs.Jobs.{word_class}
use Rattle.units.specs.Meaning.{UnitModel, Same, Fell, Holds, Joined, Taken, room_in, room_for}
use Rattle.units.specs.Calls.{TakeCall}
use Rattle.join.specs.declared.Join.{Join}
use Rattle.join.specs.Joined.{side_held, first_of, join_means, Apart, Sound}
use Rattle.join.specs.Sides.{RightTakes, SidesTake}
use Rattle.join.specs.Tags.{fell_same, both_stay, holds_first, holds_left, holds_right, first_empty, apart-fell, apart_none, none_apart}

same_joined : {A B : Type 0} (l : UnitModel A) (r : UnitModel B) (u u' : Join A B)
    → Same l u.left u'.left → Same r u.right u'.right → Same (join_means l r) u u'
same_joined l r u u' p q =
    record {
      serves = λ c. let e = p.serves c in let f = q.serves c in cc;
      stay = let e = p.stay in let f = q.stay in cc;
    }

-- a take ----------------------------------------------------------------------------

room_joined : (f g : Class → Bool) (o : Option Class) → (room_in f o || room_in g o) ≡ room_in (λ c. f c || g c) o
room_joined f g (Some c) = refl
room_joined f g None = refl

same_join : {A B : Type 0} (x x' : A) (y y' : B) (b b' : Bool) → x' ≡ x → y' ≡ y → b' ≡ b
    → ◌≡◌ {A = Join A B} (record { left = x'; right = y'; right_turn = b' }) (record { left = x; right = y; right_turn = b })
same_join x x' y y' b b' e f g = rw (e, f, g)

unit-stays : {A : Type 0} (m : UnitModel A) (u u' : A) → u' ≡ u → (t : ℕ) → Fell 0 (m.held u t) (m.held u' t)
unit-stays m u u' e t = subst (λ v. Fell 0 (m.held u t) (m.held v t)) (sym e) (fell_same (m.held u t))

module _ {A B : Type 0} (l : UnitModel A) (r : UnitModel B) where
  -- a side's other jobs, as they were or sooner due
  abbrev OthersStay : {U : Type 0} → UnitModel U → Job → U → U → Type 0
  OthersStay m j u u' = (t : ℕ) → (t ≡ j.tag → ⊥) → Fell 0 (m.held u t) (m.held u' t)

  -- a job that is held on one side after, and was on neither before
  job-joins : (u : Join A B) (j : Job) (u' : Join A B) → u'.right_turn ≡ u.right_turn → Sound l r u
      → Holds j (first_of (l.held u'.left j.tag) (r.held u'.right j.tag))
      → Apart (l.held u'.left j.tag) (r.held u'.right j.tag)
      → OthersStay l j u.left u'.left → OthersStay r j u.right u'.right → l.sound u'.left → r.sound u'.right
      → Joined (join_means l r) u j u' × Sound l r u'
  job-joins u j u' stays s holds apart left right sl' sr' =
      let turn = u.right_turn in
      let x = l.held u.left in
      let x' = l.held u'.left in
      let y = r.held u.right in
      let y' = r.held u'.right in (
        record {
          joins = holds_first (not u'.right_turn) u'.right_turn j (x' j.tag) (y' j.tag) holds;
          others = λ t ne.
              subst (λ (b : Bool). Fell 0 (first_of (side_held (not turn) (x t)) (side_held turn (y t))) (first_of (side_held (not b) (x' t)) (side_held b (y' t)))) (sym stays)
              (both_stay (not turn) turn (x t) (x' t) (y t) (y' t) (left t ne) (right t ne));
        },
        record {
          left = sl';
          right = sr';
          apart = λ t.
              elim (cases_eq t j.tag) [
                | inl e ↦ subst (λ (n : ℕ). Apart (l.held u'.left n) (r.held u'.right n)) (sym e) apart
                | inr ne ↦ apart-fell (x t) (x' t) (y t) (y' t) (left t ne) (right t ne) (s.apart t)
              ];
        },
      )

  abbrev RightTaken : Bool → Bool → B → Job → B → Type 0
  RightTaken true b u j u' = u' ≡ u
  RightTaken false b u j u' = Taken r b u j u'

  -- first whether the left side has room, then whether the right side has
  taken-joined : (a b : Bool) (u : Join A B) (j : Job) (u' : Join A B) → u'.right_turn ≡ u.right_turn
      → Taken l a u.left j u'.left → RightTaken a b u.right j u'.right
      → Taken (join_means l r) (a || b) u j u'
  taken-joined true b u j u' stays left right = λ s free.
      let none = first_empty (not u.right_turn) u.right_turn (l.held u.left j.tag) (r.held u.right j.tag) free in
      let joined = left s.left none.0 in
      let gone : r.held u'.right j.tag ≡ None = ap (λ (v : B). r.held v j.tag) right ∙ none.1 in
      job-joins u j u' stays s
      (holds_left j _ (r.held u'.right j.tag) joined.0.joins)
      (none_apart (l.held u'.left j.tag) _ gone)
      joined.0.others (λ t ne. unit-stays r u.right u'.right right t) joined.1 (subst r.sound (sym right) s.right)
  taken-joined false true u j u' stays left right = λ s free.
      let none = first_empty (not u.right_turn) u.right_turn (l.held u.left j.tag) (r.held u.right j.tag) free in
      let joined = right s.right none.1 in
      let gone : l.held u'.left j.tag ≡ None = ap (λ (v : A). l.held v j.tag) left ∙ none.0 in
      job-joins u j u' stays s
      (holds_right j _ _ gone joined.0.joins)
      (apart_none _ (r.held u'.right j.tag) gone)
      (λ t ne. unit-stays l u.left u'.left left t) joined.0.others (subst l.sound (sym left) s.left) joined.1
  taken-joined false false u j u' stays left right =
      same_join u.left u'.left u.right u'.right u.right_turn u'.right_turn left right stays

  right_same : (a : Bool) (u : B) (j : Job) (u' : B) → RightTakes l r a u j u' → Same r u u'
  right_same true u j u' e = subst (λ (v : B). Same r u v) (sym e) (record { serves = λ c. refl; stay = refl })
  right_same false u j u' call = call.same

  right_taken : (a : Bool) (u : B) (j : Job) (u' : B) → RightTakes l r a u j u' → RightTaken a (room_for r u j.word) u j u'
  right_taken true u j u' e = e
  right_taken false u j u' call = call.taken

  pub take-joined : (u : Join A B) (j : Job) (u' : Join A B) → SidesTake l r u j u' → TakeCall (join_means l r) u j u'
  take-joined u j u' sides =
      let a = room_for l u.left j.word in
      record {
        same = same_joined l r u u' sides.left.same (right_same a u.right j u'.right sides.right);
        taken =
            subst (λ (b : Bool). Taken (join_means l r) b u j u') (room_joined (l.room u.left) (r.room u.right) (word_class j.word))
            (taken-joined a (room_for r u.right j.word) u j u' sides.turn sides.left.taken (right_taken a u.right j u'.right sides.right));
      }
