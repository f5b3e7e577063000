-- What every unit keeps, and what each call of one promises, as one record each.
-- Assumes nothing.
use Rattle.std.specs.Prelude.{◌≤◌, Bool}
use Rattle.units.specs.declared.job.Job.{Job}
use Rattle.units.specs.Meaning.{UnitModel, Dues, Tags, Offers, Rooms, EmptyRooms, Same, Taken, Stepped, Empty, room_for}

pub record Keeps {A : Type 0} (m : UnitModel A) : Type 0 where
  pub stays : (u : A) → 1 ≤ m.stay u
  pub dues : (u : A) → m.sound u → Dues m u
  pub tags : (u : A) → m.sound u → Tags m u
  pub offers : (u : A) → m.sound u → Offers m u
  pub rooms : (u : A) → Rooms m u
  pub empty_rooms : (u : A) → m.sound u → EmptyRooms m u

pub record TakeCall {A : Type 0} (m : UnitModel A) (u : A) (j : Job) (u' : A) : Type 0 where
  pub same : Same m u u'
  pub taken : Taken m (room_for m u j.word) u j u'

pub record StepCall {A : Type 0} (m : UnitModel A) (u : A) (accepted : Bool) (u' : A) : Type 0 where
  pub same : Same m u u'
  pub stepped : m.sound u → Stepped m u accepted u' × m.sound u'

pub record ClearCall {A : Type 0} (m : UnitModel A) (u u' : A) : Type 0 where
  pub same : Same m u u'
  pub empty : Empty m u'
  pub sounds : m.sound u'
