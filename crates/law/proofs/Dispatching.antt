-- Dispatch keeps the tie: an instruction moves from its station to the unit, with the plan's operands.
-- Assumes nothing.
use Rattle.std.proofs.Common.{◌≡◌, ℕ, Bool, true, ◌⊎◌, map, Some, None, sym, refl, ap, ◌∙◌, subst, inl, inr}
use Rattle.std.proofs.lemmas.Option.{none-some}
use lib.ListN.{length-map}
use Rattle.std.proofs.lemmas.Bool.Decides.{eqb_tells}
use Rattle.isa.specs.declared.operation.Class.{Class}
use Rattle.machine.specs.declared.state.Machine.{Machine}
use Rattle.machine.specs.Step.{fetched}
use Rattle.units.specs.declared.job.Job.{Job}
use Rattle.units.specs.Jobs.{word_class}
use Rattle.units.specs.Meaning.{UnitModel, Held, Taken, Joined, room_in, room_for}
use Rattle.units.specs.Calls.{TakeCall}
use Rattle.tables.specs.declared.buffer.Buffer.{Buffer}
use Rattle.tables.specs.declared.station.Operand.{Operand}
use Rattle.tables.specs.declared.station.Operand.TheVariants.{Value, Awaits}
use Rattle.tables.specs.declared.station.Station.{Station}
use Rattle.tables.specs.Buffers.{slot_at}
use Rattle.tables.specs.Waiting.{job_with, job_of, goes, freed_place}
use Rattle.law.specs.declared.state.Core.{Core}
use Rattle.law.specs.Steps.{sent}
use Rattle.law.proofs.Plan.{ahead}
use Rattle.law.proofs.Tied.{InStation, OperandTied, StationTied, JobTied, HeldUnder, Tied}
use Rattle.law.proofs.Decoding.{work-class}
use Rattle.law.proofs.Places.{all_both, all_freed_lem, in_freed, job-tag, goes_from}
use Rattle.law.proofs.Falls.{was-held, stays-held, stays_free, holds_it, holds_only}

-- the job of a station ------------------------------------------------------------------

pub record JobFrom (s : Station) (j : Job) : Type 0 where
  pub word : j.word ≡ s.word
  pub pc : j.pc ≡ s.pc
  pub a : s.a ≡ Value j.a
  pub b : s.b ≡ Value j.b

job-from : (s : Station) (j : Job) (a b : Operand) → s.a ≡ a → s.b ≡ b → job_with a b s ≡ Some j → JobFrom s j
job-from s j (Value v) (Value w) ea eb e =
    let same : ◌≡◌ {A = Job} (record { tag = s.tag; word = s.word; pc = s.pc; a = v; b = w }) j = cc in
    record {
      word = ap (λ (y : Job). y.word) (sym same);
      pc = ap (λ (y : Job). y.pc) (sym same);
      a = ea ∙ ap (λ (y : Job). Value y.a) same;
      b = eb ∙ ap (λ (y : Job). Value y.b) same;
    }
job-from s j (Value v) (Awaits t) ea eb e = cc
job-from s j (Awaits t) b ea eb e = cc

module _ (served : Class → Bool) (q : Buffer) (x : Machine) where
  -- a station with both operands has the plan's job
  pub job-tied : (s : Station) (j : Job) → StationTied served q x s → job_of s ≡ Some j → JobTied served q x j.tag j
  job-tied s j h e =
      let i = h.index in
      let f = h.instruction in
      let parts = job-from s j s.a s.b refl refl e in
      record {
        index = i;
        class = s.class;
        instruction = f;
        asked = record {
          below = h.asked.below;
          tag = job-tag s j e ∙ h.asked.tag;
          waits = h.asked.waits;
          work = h.asked.work;
          word = parts.word ∙ h.asked.word;
          pc = parts.pc ∙ h.asked.pc;
        };
        tag = refl;
        a = subst (OperandTied served q x i f.rs1) parts.a h.a;
        b = subst (OperandTied served q x i f.rs2) parts.b h.b;
      }

  -- there is room for its word where there is room for its class
  pub room_for_job : {A : Type 0} (m : UnitModel A) (u : A) (s : Station) (j : Job) → StationTied served q x s → job_of s ≡ Some j
      → m.room u s.class ≡ true → room_for m u j.word ≡ true
  room_for_job m u s j h e room =
      let parts = job-from s j s.a s.b refl refl e in
      let known : word_class j.word ≡ Some s.class =
      ap word_class (parts.word ∙ h.asked.word)
      ∙ work-class served (fetched (ahead served x h.index)) s.class h.instruction h.asked.work in
      ap (room_in (m.room u)) known ∙ room

module _ {A : Type 0} (m : UnitModel A) (served : Class → Bool) (stay : ℕ) (c : Core) (u u' : A) (j : Job)
    (h : Tied m served stay c u) (goes-it : goes (m.room u) c.buffer.head c.stations.places ≡ Some j)
    (call : TakeCall m u j u') where
  -- the station that the job goes from
  pub record Sender : Type 0 where
    pub station : Station
    pub job : job_of station ≡ Some j
    pub room : m.room u station.class ≡ true
    pub tied : StationTied served c.buffer c.machine station
    pub free : m.held u station.tag ≡ None

  pub sender : Sender
  sender =
      let P = StationTied served c.buffer c.machine in
      let Q = λ (s : Station). m.held u s.tag ≡ None in
      let from = goes_from (m.room u) c.buffer.head (λ (s : Station). P s × Q s) c.stations.places j goes-it
      (all_both P Q c.stations.places h.work.stations h.work.apart) in
      record { station = from.0; job = from.1; room = from.2; tied = from.3.0; free = from.3.1 }

  tag_was_free : m.held u j.tag ≡ None
  tag_was_free = ap (m.held u) (job-tag sender.station j sender.job) ∙ sender.free

  -- the unit takes it
  pub takes : Joined m u j u' × m.sound u'
  takes =
      subst (λ (b : Bool). Taken m b u j u')
      (room_for_job served c.buffer c.machine m u sender.station j sender.tied sender.job sender.room)
      call.taken h.shaped.sounds tag_was_free

  taken-job : JobTied served c.buffer c.machine j.tag j
  taken-job = job-tied served c.buffer c.machine sender.station j sender.tied sender.job

  jobs_after : (t : ℕ) (k : Held) → m.held u' t ≡ Some k → JobTied served c.buffer c.machine t k.job
  jobs_after t k is =
      elim (eqb_tells t j.tag) [
        | inl e ↦
            let job : k.job ≡ j = holds_only j (m.held u' j.tag) k takes.0.joins (ap (m.held u') (sym e.1) ∙ is) in
            subst (JobTied served c.buffer c.machine t) (sym job)
            (subst (λ (y : ℕ). JobTied served c.buffer c.machine y j) (sym e.1) taken-job)
        | inr e ↦
            let was = was-held 0 (m.held u t) (m.held u' t) k (takes.0.others t e.1) is in
            subst (JobTied served c.buffer c.machine t) (sym was.job) (h.work.jobs t was.held was.is)
      ]

  somewhere_after : (t : ℕ) → InStation t c.stations.places ⊎ HeldUnder m served stay u t
      → InStation t (map (freed_place j.tag) c.stations.places) ⊎ HeldUnder m served stay u' t
  somewhere_after t (inl waiting) =
      elim (eqb_tells t j.tag) [
        | inl e ↦
            let held = holds_it j (m.held u' j.tag) takes.0.joins in
            inr (held.0, ap (m.held u') e.1 ∙ held.1)
        | inr e ↦ inl (in_freed t j.tag c.stations.places e.1 waiting)
      ]
  somewhere_after t (inr held) =
      let other : t ≡ j.tag → ⊥ = λ e. absurd (none-some held.0 (sym tag_was_free ∙ ap (m.held u) (sym e) ∙ held.1)) in
      let stays = stays-held 0 (m.held u t) (m.held u' t) held.0 (takes.0.others t other) held.1 in
      inr (stays.held, stays.is)

  pub dispatch-keeps : Tied m served stay (sent j c) u'
  dispatch-keeps =
      let shape = h.shaped in
      record {
        shaped = record {
          registers = shape.registers;
          entries = shape.entries;
          places = length-map c.stations.places (freed_place j.tag) ∙ shape.places;
          tags = shape.tags;
          head = shape.head;
          count = shape.count;
          knows = shape.knows;
          serves = λ a. call.same.serves a ∙ shape.serves a;
          stays = call.same.stay ∙ shape.stays;
          sounds = takes.1;
        };
        entries = h.entries;
        tags = h.tags;
        work = record {
          stations = all_freed_lem (StationTied served c.buffer c.machine) (StationTied served c.buffer c.machine)
              j.tag c.stations.places (λ s other tied. tied) h.work.stations;
          jobs = jobs_after;
          apart = all_freed_lem (λ s. m.held u s.tag ≡ None) (λ s. m.held u' s.tag ≡ None) j.tag c.stations.places
              (λ s other free. stays_free 0 (m.held u s.tag) (m.held u' s.tag) (takes.0.others s.tag other) free)
              h.work.apart;
          somewhere = λ i lt is. somewhere_after (slot_at c.buffer i) (h.work.somewhere i lt is);
        };
      }
