-- With nothing in flight a core is tied to the plan: so start and a retirement that drops everything make the tie.
-- Assumes nothing.
use Rattle.std.proofs.lemmas.Option.{none-some}
use Rattle.std.proofs.Common.{◌≡◌, ℕ, Bool, true, false, None, sym, refl, ap, ◌∙◌, subst, arith}
use Rattle.isa.specs.declared.operation.Class.{Class}
use Rattle.isa.specs.declared.operation.Class.TheVariants.{Plain, Multiply, Divide, Transfer}
use Rattle.machine.specs.Classes.{serves}
use Rattle.units.specs.Meaning.{UnitModel, Empty}
use Rattle.units.specs.Calls.{Keeps, ClearCall}
use Rattle.tables.specs.Waiting.{no_stations}
use Rattle.tables.specs.Tagging.{no_tags, tag_of}
use Rattle.law.specs.declared.state.Core.{Core}
use Rattle.law.specs.declared.state.Stopped.{Stopped}
use Rattle.law.specs.Pasts.{Sized}
use Rattle.law.specs.Steps.{roomy, begun}
use Rattle.law.proofs.Plan.{ahead, writer}
use Rattle.law.proofs.Tied.{Shaped, Tied, StationTied, AllStations, slot_of}
use Rattle.law.proofs.RegisterTags.{no_tag}

-- two tests that hold in the same cases
same_test : (b c : Bool) → (b ≡ true → c ≡ true) → (c ≡ true → b ≡ true) → b ≡ c
same_test true c f g = sym (f refl)
same_test false true f g = g refl
same_test false false f g = refl

module _ {A : Type 0} (m : UnitModel A) (served : Class → Bool) (stay : ℕ) where
  pub nothing_in_flight : (c : Core) (u : A) → Shaped m served stay c u → c.buffer.count ≡ 0 → c.fetch ≡ c.machine.pc
      → c.stations ≡ no_stations → c.tags ≡ no_tags → Empty m u → Tied m served stay c u
  nothing_in_flight c u h none at stations tags empty =
      record {
        shaped = h;
        entries = record {
          fetch = at ∙ sym (ap (λ (n : ℕ). (ahead served c.machine n).pc) none);
          entries = λ i lt. absurd (omega (arith, lt, none));
        };
        tags = λ r lt.
            ap (λ x. tag_of x r) tags ∙ (no_tag r ∙ sym (ap (λ (n : ℕ). slot_of c.buffer (writer served c.machine r n)) none));
        work = record {
          stations = subst (λ x. AllStations (StationTied served c.buffer c.machine) x.places) (sym stations) tt;
          jobs = λ t h e. absurd (none-some h (sym (empty t) ∙ e));
          apart = subst (λ x. AllStations (λ s. m.held u s.tag ≡ None) x.places) (sym stations) tt;
          somewhere = λ i lt e. absurd (omega (arith, lt, none));
        };
      }

module _ {A : Type 0} (m : UnitModel A) (keeps : Keeps m) where
  -- a unit without jobs has room for exactly what it serves
  room_of_empty : (u : A) → m.sound u → Empty m u → (a : Class) → m.room u a ≡ m.serves u a
  room_of_empty u s empty a =
      same_test (m.room u a) (m.serves u a) (keeps.rooms u a) (keeps.empty_rooms u s empty a)

  roomy-serves : (room : Class → Bool) (a : Class) → serves (roomy room) a ≡ room a
  roomy-serves room Plain = refl
  roomy-serves room Multiply = refl
  roomy-serves room Divide = refl
  roomy-serves room Transfer = refl

  pub start_ties : (s : Stopped A) (u : A) → Sized s.machine → ClearCall m s.unit u
      → Tied m (m.serves s.unit) (m.stay s.unit) (begun s.machine s.line (m.room u)) u
  start_ties s u sized call =
      nothing_in_flight m (m.serves s.unit) (m.stay s.unit) (begun s.machine s.line (m.room u)) u
      (record {
        registers = sized;
        entries = refl;
        places = refl;
        tags = refl;
        head = omega arith;
        count = omega arith;
        knows = λ a. roomy-serves (m.room u) a ∙ (room_of_empty u call.sounds call.empty a ∙ call.same.serves a);
        serves = call.same.serves;
        stays = call.same.stay;
        sounds = call.sounds;
      })
      refl refl refl refl call.empty
