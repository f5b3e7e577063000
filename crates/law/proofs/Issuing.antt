-- Issue keeps the tie: it adds the plan's next instruction behind those in flight.
-- Assumes nothing.
use Rattle.std.proofs.Common.{◌≡◌, ℕ, suc, ◌+◌, ◌<◌, ◌≤◌, Bool, true, false, cond, not, ◌&&◌, eqb, ◌⊎◌, length, Some, None, Option, sym, refl, ap, ◌∙◌, subst, inl, inr, arith}
use Rattle.std.proofs.lemmas.Bool.{true≢false, cases_lt}
use Rattle.isa.specs.declared.instruction.Instruction.{Instruction}
use Rattle.isa.specs.declared.operation.Class.{Class}
use Rattle.execute.specs.Outcomes.{sum}
use Rattle.machine.specs.declared.decode.Decoded.{Decoded}
use Rattle.machine.specs.declared.decode.Decoded.TheVariants.{Trap as AsksTrap, Return as AsksReturn, Work}
use Rattle.machine.specs.declared.judgement.Judgement.{Judgement}
use Rattle.machine.specs.declared.judgement.Judgement.TheVariants.{Trap, Return}
use Rattle.machine.specs.declared.program.Program.{Program}
use Rattle.machine.specs.declared.state.Machine.{Machine}
use Rattle.machine.specs.Classes.{serves}
use Rattle.machine.specs.Decode.{decoded}
use Rattle.machine.specs.Programs.{word_at}
use Rattle.machine.specs.States.{register_of}
use Rattle.machine.specs.Step.{fetched, word_or0, judged}
use Rattle.units.specs.declared.job.Job.{Job}
use Rattle.units.specs.Meaning.{UnitModel, Held}
use Rattle.tables.specs.declared.buffer.Buffer.{Buffer}
use Rattle.tables.specs.declared.entry.Entry.{Entry}
use Rattle.tables.specs.declared.station.Operand.{Operand}
use Rattle.tables.specs.declared.station.Operand.TheVariants.{Value, Awaits}
use Rattle.tables.specs.declared.station.Station.{Station}
use Rattle.tables.specs.Buffers.{slot_at, entry_at, pushed}
use Rattle.tables.specs.Waiting.{any_free}
use Rattle.tables.specs.Tagging.{tag_of}
use Rattle.law.specs.declared.state.Core.{Core}
use Rattle.law.specs.Steps.{brings, result_operand, operand_by, operand_of, fetched_word, asked, entry_for, new_entry, new_station, needs_station, stations_for, issued}
use Rattle.law.proofs.Plan.{destination_of, asks, result, ahead, writes, writer, writer_brings}
use Rattle.law.proofs.Tied.{AllStations, InStation, slot_of, EntryTied, OperandTied, Asked, StationTied, JobTied, Tied}
use Rattle.law.proofs.Ahead.{ahead-last, ahead_program, past_registers, value_of_writer, writer-below}
use Rattle.law.proofs.Decoding.{decoded_same}
use Rattle.law.proofs.Slots.{slot_apart, pushed_old, pushed_new, pushed-length}
use Rattle.law.proofs.Places.{all_weaker, all_placed_lem, in_placed_new, in_placed_old, placed-length}
use Rattle.law.proofs.RegisterTags.{past_tags, tag_after, tagged-length}

-- the entry -------------------------------------------------------------------------

module _ (served : Class → Bool) where
  -- an entry that is made for what the plan asks is the plan's
  entry_for_lem : (y : Machine) (pc w : ℕ) (d : Decoded) → pc ≡ y.pc → w ≡ word_or0 (fetched y) → d ≡ asks served y
      → EntryTied served y (entry_for pc w d)
  entry_for_lem y pc w (AsksTrap c) p v e =
      record {
        pc = p;
        word = v;
        destination = ap destination_of e;
        result = λ j is. let same : j ≡ Trap c = cc in same ∙ ap (λ (d : Decoded). judged d y) e;
      }
  entry_for_lem y pc w AsksReturn p v e =
      record {
        pc = p;
        word = v;
        destination = ap destination_of e;
        result = λ j is. let same : j ≡ Return = cc in same ∙ ap (λ (d : Decoded). judged d y) e;
      }
  entry_for_lem y pc w (Work c i) p v e =
      record { pc = p; word = v; destination = ap destination_of e; result = λ j is. cc }

  -- what was tied stays tied behind a new entry ---------------------------------------

  module _ (q : Buffer) (x : Machine) (e : Entry) (left : q.count < 16) where
    waits_on : (i : ℕ) → i < q.count → (entry_at q i).result ≡ None → (entry_at (pushed e q) i).result ≡ None
    waits_on i lt w = ap (λ (y : Entry). y.result) (pushed_old q e i lt left) ∙ w

    operand_on : (i r : ℕ) (o : Operand) → i ≤ q.count → OperandTied served q x i r o → OperandTied served (pushed e q) x i r o
    operand_on i r (Value v) le h = h
    operand_on i r (Awaits t) le h =
        record {
          from = h.from;
          older = h.older;
          tag = h.tag;
          waits = waits_on h.from (omega (arith, h.older, le)) h.waits;
          value = h.value;
        }

    asked_on : (i t w p : ℕ) (c : Class) (f : Instruction) → Asked served q x i t w p c f → Asked served (pushed e q) x i t w p c f
    asked_on i t w p c f h =
        record {
          below = omega (arith, h.below);
          tag = h.tag;
          waits = waits_on i h.below h.waits;
          work = h.work;
          word = h.word;
          pc = h.pc;
        }

    station_on : (s : Station) → StationTied served q x s → StationTied served (pushed e q) x s
    station_on s h =
        let i = h.index in
        let f = h.instruction in
        let le : i ≤ q.count = omega (arith, h.asked.below) in
        record {
          index = i;
          instruction = f;
          asked = asked_on i s.tag s.word s.pc s.class f h.asked;
          a = operand_on i f.rs1 s.a le h.a;
          b = operand_on i f.rs2 s.b le h.b;
        }

    job_on : (t : ℕ) (k : Job) → JobTied served q x t k → JobTied served (pushed e q) x t k
    job_on t k h =
        record {
          index = h.index;
          class = h.class;
          instruction = h.instruction;
          asked = asked_on h.index t k.word k.pc h.class h.instruction h.asked;
          tag = h.tag;
          a = h.a;
          b = h.b;
        }

  -- tags --------------------------------------------------------------------------------

  slot_of_newest : (q : Buffer) (e : Entry) (n : ℕ) (b : Bool) (w : Option ℕ)
      → cond b (Some (slot_at q n)) (slot_of q w) ≡ slot_of (pushed e q) (cond b (Some n) w)
  slot_of_newest q e n true w = refl
  slot_of_newest q e n false None = refl
  slot_of_newest q e n false (Some k) = refl

module _ {A : Type 0} (m : UnitModel A) (served : Class → Bool) (stay : ℕ) (c : Core) (u : A)
    (h : Tied m served stay c u) (left : c.buffer.count < 16) where
  -- the machine before the new entry
  abbrev before : Machine
  before = ahead served c.machine c.buffer.count

  word_is : fetched_word c ≡ fetched before
  word_is =
      ap (word_at c.machine.program) h.entries.fetch
      ∙ ap (λ (p : Program). word_at p before.pc) (sym (ahead_program served c.machine c.buffer.count))

  asked_is : asked c ≡ asks served before
  asked_is = decoded_same (serves c.served) served (fetched_word c) h.shaped.knows ∙ ap (decoded served) word_is

  new_entry_lem : EntryTied served before (new_entry c)
  new_entry_lem = entry_for_lem served before c.fetch (word_or0 (fetched_word c)) (asked c) h.entries.fetch (ap word_or0 word_is) asked_is

  -- an operand that comes from the entry that its tag names ------------------------------

  from_entry : (r k : ℕ) (o : Option Judgement) → (entry_at c.buffer k).result ≡ o → k < c.buffer.count
      → register_of before r ≡ result served (ahead served c.machine k)
      → OperandTied served (pushed (new_entry c) c.buffer) c.machine c.buffer.count r (result_operand (slot_at c.buffer k) o)
  from_entry r k (Some j) is lt value = ap brings ((h.entries.entries k lt).result j is) ∙ sym value
  from_entry r k None is lt value =
      record { from = k; older = lt; tag = refl; waits = waits_on served c.buffer c.machine (new_entry c) left k lt is; value = value }

  from-writer : (r : ℕ) (w : Option ℕ) → writer served c.machine r c.buffer.count ≡ w
      → register_of before r ≡ writer_brings served c.machine r w
      → OperandTied served (pushed (new_entry c) c.buffer) c.machine c.buffer.count r (operand_by c r (slot_of c.buffer w))
  from-writer r None is value = sym value
  from-writer r (Some k) is value =
      from_entry r k (entry_at c.buffer k).result refl (writer-below served c.machine r c.buffer.count k is) value

  operand-tied : (r : ℕ) → OperandTied served (pushed (new_entry c) c.buffer) c.machine c.buffer.count r (operand_of c r)
  operand-tied r =
      let Goal = λ (o : Option ℕ). OperandTied served (pushed (new_entry c) c.buffer) c.machine c.buffer.count r (operand_by c r o) in
      elim (cases_lt r 32) [
        | inl lt ↦
            subst Goal (sym (h.tags r lt))
            (from-writer r (writer served c.machine r c.buffer.count) refl
            (value_of_writer served c.machine c.buffer.count r h.shaped.registers lt))
        | inr past ↦
            subst Goal (sym (past_tags c.tags r h.shaped.tags (λ lt. absurd (omega (arith, lt, past)))))
            (sym (past_registers served c.machine c.buffer.count r h.shaped.registers past))
      ]

  -- where the new entry waits --------------------------------------------------------------

  station-tied : (a : Class) (f : Instruction) → asked c ≡ Work a f
      → StationTied served (pushed (new_entry c) c.buffer) c.machine (new_station c a f)
  station-tied a f is =
      record {
        index = c.buffer.count;
        instruction = f;
        asked = record {
          below = omega arith;
          tag = refl;
          waits = ap (λ (y : Entry). y.result) (pushed_new c.buffer (new_entry c) h.shaped.entries)
              ∙ ap (λ (d : Decoded). (entry_for c.fetch (word_or0 (fetched_word c)) d).result) is;
          work = sym asked_is ∙ is;
          word = ap word_or0 word_is;
          pc = h.entries.fetch;
        };
        a = operand-tied f.rs1;
        b = operand-tied f.rs2;
      }

  -- nothing is held under the slot of the new entry
  new_slot_free : (o : Option Held) → m.held u (slot_at c.buffer c.buffer.count) ≡ o → o ≡ None
  new_slot_free None is = refl
  new_slot_free (Some k) is =
      let j = h.work.jobs (slot_at c.buffer c.buffer.count) k is in
      let same : c.buffer.count ≡ j.index =
      slot_apart c.buffer c.buffer.count j.index left (omega (arith, j.asked.below, left)) j.asked.tag in
      absurd (omega (arith, j.asked.below, same))

  old_stations : AllStations (StationTied served (pushed (new_entry c) c.buffer) c.machine) c.stations.places
  old_stations =
      all_weaker (StationTied served c.buffer c.machine) (StationTied served (pushed (new_entry c) c.buffer) c.machine)
      c.stations.places (station_on served c.buffer c.machine (new_entry c) left) h.work.stations

  stations_for_lem : (d : Decoded) → asked c ≡ d
      → AllStations (StationTied served (pushed (new_entry c) c.buffer) c.machine) (stations_for d c).places
  stations_for_lem (AsksTrap k) is = old_stations
  stations_for_lem AsksReturn is = old_stations
  stations_for_lem (Work a f) is =
      all_placed_lem (StationTied served (pushed (new_entry c) c.buffer) c.machine) (new_station c a f) c.stations.places
      (station-tied a f is) old_stations

  apart_for : (d : Decoded) → AllStations (λ s. m.held u s.tag ≡ None) (stations_for d c).places
  apart_for (AsksTrap k) = h.work.apart
  apart_for AsksReturn = h.work.apart
  apart_for (Work a f) =
      all_placed_lem (λ s. m.held u s.tag ≡ None) (new_station c a f) c.stations.places
      (new_slot_free (m.held u (slot_at c.buffer c.buffer.count)) refl) h.work.apart

  places_for : (d : Decoded) → length (stations_for d c).places ≡ 8
  places_for (AsksTrap k) = h.shaped.places
  places_for AsksReturn = h.shaped.places
  places_for (Work a f) = placed-length (new_station c a f) c.stations.places ∙ h.shaped.places

  pub still_in : (d : Decoded) (t : ℕ) → InStation t c.stations.places → InStation t (stations_for d c).places
  still_in (AsksTrap k) t i = i
  still_in AsksReturn t i = i
  still_in (Work a f) t i = in_placed_old t (new_station c a f) c.stations.places i

  -- a new entry that is not done has a station
  new_in : (d : Decoded) → (needs_station d && not (any_free c.stations.places)) ≡ false
      → (entry_for c.fetch (word_or0 (fetched_word c)) d).result ≡ None → InStation (slot_at c.buffer c.buffer.count) (stations_for d c).places
  new_in (AsksTrap k) free is = cc
  new_in AsksReturn free is = cc
  new_in (Work a f) free is = in_placed_new (new_station c a f) c.stations.places (free-place (any_free c.stations.places) free)
    where
      free-place : (b : Bool) → not b ≡ false → b ≡ true
      free-place true e = refl
      free-place false e = absurd (true≢false e)

  older_or_new : (i : ℕ) → i < c.buffer.count + 1 → (i < c.buffer.count) ⊎ (i ≡ c.buffer.count)
  older_or_new i lt = elim (cases_lt i c.buffer.count) [ inl below ↦ inl below | inr above ↦ inr (omega (arith, lt, above)) ]

  pub issue-keeps : (needs_station (asked c) && not (any_free c.stations.places)) ≡ false → Tied m served stay (issued c) u
  issue-keeps free =
      let x = c.machine in
      let q = c.buffer in
      let e = new_entry c in
      let n = q.count in
      let one_more : n + 1 ≡ suc n = omega arith in
      let shape = h.shaped in
      record {
        shaped = record {
          registers = shape.registers;
          entries = pushed-length q e shape.entries;
          places = places_for (asked c);
          tags = tagged-length e.destination (slot_at q n) c.tags shape.tags;
          head = shape.head;
          count = omega (arith, left);
          knows = shape.knows;
          serves = shape.serves;
          stays = shape.stays;
          sounds = shape.sounds;
        };
        entries = record {
          fetch =
              ap (λ (a : ℕ). sum a 4) h.entries.fetch
              ∙ (ap (λ (y : Machine). y.pc) (sym (ahead-last served x n)) ∙ ap (λ (i : ℕ). (ahead served x i).pc) (sym one_more));
          entries = λ i lt.
              elim (older_or_new i lt) [
                | inl below ↦ subst (EntryTied served (ahead served x i)) (sym (pushed_old q e i below left)) (h.entries.entries i below)
                | inr same ↦
                    subst (λ (k : ℕ). EntryTied served (ahead served x k) (entry_at (pushed e q) k)) (sym same)
                    (subst (EntryTied served before) (sym (pushed_new q e shape.entries)) new_entry_lem)
              ];
        };
        tags = λ r lt.
            tag_after e.destination (slot_at q n) c.tags r shape.tags lt
            ∙ (ap (λ (d : ℕ). cond (not (eqb r 0) && eqb d r) (Some (slot_at q n)) (tag_of c.tags r)) new_entry_lem.destination
            ∙ (ap (λ (o : Option ℕ). cond (writes served x n r) (Some (slot_at q n)) o) (h.tags r lt)
            ∙ (slot_of_newest served q e n (writes served x n r) (writer served x r n)
            ∙ ap (λ (k : ℕ). slot_of (pushed e q) (writer served x r k)) (sym one_more))));
        work = record {
          stations = stations_for_lem (asked c) refl;
          jobs = λ t k is. job_on served q x e left t k.job (h.work.jobs t k is);
          apart = apart_for (asked c);
          somewhere = λ i lt is.
              elim (older_or_new i lt) [
                | inl below ↦
                    elim (h.work.somewhere i below (sym (ap (λ (y : Entry). y.result) (pushed_old q e i below left)) ∙ is)) [
                      | inl waiting ↦ inl (still_in (asked c) (slot_at q i) waiting)
                      | inr held ↦ inr held
                    ]
                | inr same ↦
                    inl (subst (λ (k : ℕ). InStation (slot_at q k) (stations_for (asked c) c).places) (sym same)
                    (new_in (asked c) free
                    (sym (ap (λ (y : Entry). y.result) (pushed_new q e shape.entries))
                    ∙ (ap (λ (k : ℕ). (entry_at (pushed e q) k).result) (sym same) ∙ is))))
              ];
        };
      }
