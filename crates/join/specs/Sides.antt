-- What a call of a join does, by what it does to its two sides.
-- Assumes nothing.
use Rattle.std.specs.Prelude.{◌≡◌, Bool, true, false, not}
use Rattle.units.specs.declared.job.Job.{Job}
use Rattle.units.specs.Meaning.{UnitModel, Taken, Stepped, room_for}
use Rattle.units.specs.Calls.{TakeCall, StepCall, ClearCall}
use Rattle.join.specs.declared.Join.{Join}
use Rattle.join.specs.Joined.{contested, turned, granted, join_means, Sound}

module _ {A B : Type 0} (l : UnitModel A) (r : UnitModel B) where
  -- what take and step promise of a join as a unit
  abbrev pub JoinTaken : Join A B → Job → Join A B → Type 0
  JoinTaken u j u' = Taken (join_means l r) (room_for (join_means l r) u j.word) u j u'

  abbrev pub JoinStepped : Join A B → Bool → Join A B → Type 0
  JoinStepped u accepted u' = Sound l r u → Stepped (join_means l r) u accepted u' × Sound l r u'

  -- the right side is asked only where the left has no room
  abbrev pub RightTakes : Bool → B → Job → B → Type 0
  RightTakes true u j u' = u' ≡ u
  RightTakes false u j u' = TakeCall r u j u'

  pub record SidesTake (u : Join A B) (j : Job) (u' : Join A B) : Type 0 where
    pub turn : u'.right_turn ≡ u.right_turn
    pub left : TakeCall l u.left j u'.left
    pub right : RightTakes (room_for l u.left j.word) u.right j u'.right

  abbrev pub both_offer : Join A B → Bool
  both_offer u = contested (l.offer u.left) (r.offer u.right)

  pub record SidesStep (u : Join A B) (accepted : Bool) (u' : Join A B) : Type 0 where
    pub turn : u'.right_turn ≡ turned accepted (both_offer u) u.right_turn
    pub left : StepCall l u.left (granted accepted (both_offer u) (not u.right_turn)) u'.left
    pub right : StepCall r u.right (granted accepted (both_offer u) u.right_turn) u'.right

  pub record SidesClear (u u' : Join A B) : Type 0 where
    pub turn : u'.right_turn ≡ false
    pub left : ClearCall l u.left u'.left
    pub right : ClearCall r u.right u'.right
