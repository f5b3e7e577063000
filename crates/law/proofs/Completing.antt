-- Complete keeps the tie: the entry whose tag arrived is done with the plan's result, and those that wait for it get its value.
-- Assumes nothing.
use Rattle.std.proofs.Common.{◌≡◌, ℕ, ◌<◌, ◌≤◌, Bool, true, false, eqb, Some, None, Option, sym, refl, ap, ◌∙◌, subst, inl, inr, arith}
use Rattle.std.proofs.lemmas.Option.{none-some}
use lib.ListN.{length-map}
use Rattle.std.proofs.lemmas.Bool.{true≢false, eqb-true, eqb-false, eq-eqb, ne_eqb, cond_both}
use Rattle.std.proofs.lemmas.Bool.Decides.{eqb_tells}
use Rattle.isa.specs.declared.instruction.Instruction.{Instruction}
use Rattle.isa.specs.declared.operation.Class.{Class}
use Rattle.isa.specs.declared.outcome.Outcome.{Outcome}
use Rattle.isa.specs.declared.outcome.Outcome.TheVariants.{Done, Misaligned}
use Rattle.execute.specs.Outcomes.{outcome_of}
use Rattle.machine.specs.declared.decode.Decoded.{Decoded}
use Rattle.machine.specs.declared.state.Machine.{Machine}
use Rattle.machine.specs.States.{register_of}
use Rattle.machine.specs.Step.{fetched, judged_outcome, judged, judgement_of}
use Rattle.units.specs.declared.job.Job.{Job}
use Rattle.units.specs.declared.job.Offer.{Offer}
use Rattle.units.specs.Jobs.{job_outcome}
use Rattle.units.specs.Meaning.{UnitModel, Held, Fell, Moved, offers_tag}
use Rattle.units.specs.Calls.{Keeps, StepCall}
use Rattle.tables.specs.declared.buffer.Buffer.{Buffer}
use Rattle.tables.specs.declared.entry.Entry.{Entry}
use Rattle.tables.specs.declared.station.Operand.{Operand}
use Rattle.tables.specs.declared.station.Operand.TheVariants.{Value, Awaits}
use Rattle.tables.specs.declared.station.Station.{Station}
use Rattle.tables.specs.Buffers.{slot_at, entry_at, entry_in, replaced}
use Rattle.tables.specs.Waiting.{filled, woken, all_woken, woken_place}
use Rattle.law.specs.declared.state.Core.{Core}
use Rattle.law.specs.Steps.{brings, outcome_brings, finished_entry, completed_by}
use Rattle.law.proofs.Plan.{destination_of, asks, result, ahead, writer}
use Rattle.law.proofs.Tied.{slot_of, EntryTied, OperandTied, Asked, StationTied, JobTied, Tied}
use Rattle.law.proofs.Decoding.{work_outcome}
use Rattle.law.proofs.Slots.{slot_apart, replaced_at, replaced_other, replaced-length}
use Rattle.law.proofs.Places.{all_weaker, all_both, all_woken_lem, in_woken}
use Rattle.law.proofs.Falls.{was-held, stays-held, was_not_offered, moved_free}

-- the outcome of a held job is the plan's ---------------------------------------------------

-- what arrives for those that wait is what the entry will bring
same_brought : (d : ℕ) (o : Outcome) → outcome_brings o ≡ brings (judged_outcome d (Some o))
same_brought d (Done v n) = refl
same_brought d Misaligned = refl

module _ (served : Class → Bool) (q : Buffer) (x : Machine) where
  job-finishes : (t d : ℕ) (j : Job) (o : Outcome) (h : JobTied served q x t j) → job_outcome j ≡ Some o
      → d ≡ destination_of (asks served (ahead served x h.index))
      → judged_outcome d (Some o) ≡ judgement_of served (ahead served x h.index)
  job-finishes t d j o h e to =
      let y = ahead served x h.index in
      let f = h.instruction in
      let worked : outcome_of f j.pc j.a j.b ≡ Some o =
      sym (work_outcome served (fetched y) h.class f h.asked.work j h.asked.word) ∙ e in
      ap (λ (r : ℕ). judged_outcome r (Some o)) (to ∙ ap destination_of h.asked.work)
      ∙ (ap (judged_outcome f.rd) (sym worked)
      ∙ (ap (λ (p : ℕ). judged_outcome f.rd (outcome_of f p j.a j.b)) h.asked.pc
      ∙ (ap (λ (a : ℕ). judged_outcome f.rd (outcome_of f y.pc a j.b)) h.a
      ∙ (ap (λ (b : ℕ). judged_outcome f.rd (outcome_of f y.pc (register_of y f.rs1) b)) h.b
      ∙ ap (λ (d : Decoded). judged d y) (sym h.asked.work)))))

  -- entry i is done ----------------------------------------------------------------------------

  module _ (i : ℕ) (e : Entry) (few : q.count ≤ 16) (below : i < q.count) where
    other_waits : (n : ℕ) → n < q.count → (n ≡ i → ⊥) → (entry_at q n).result ≡ None
        → (entry_at (replaced (slot_at q i) e q) n).result ≡ None
    other_waits n lt ne w =
        ap (λ (y : Entry). y.result) (replaced_other q e i n (omega (arith, few, below)) (omega (arith, few, lt)) ne) ∙ w

    asked_still : (n t w p : ℕ) (c : Class) (f : Instruction) → (n ≡ i → ⊥) → Asked served q x n t w p c f
        → Asked served (replaced (slot_at q i) e q) x n t w p c f
    asked_still n t w p c f ne h =
        record {
          below = h.below;
          tag = h.tag;
          waits = other_waits n h.below ne h.waits;
          work = h.work;
          word = h.word;
          pc = h.pc;
        }

    job_still : (t : ℕ) (k : Job) → (t ≡ slot_at q i → ⊥) → JobTied served q x t k → JobTied served (replaced (slot_at q i) e q) x t k
    job_still t k ne h =
        let other : h.index ≡ i → ⊥ = λ is. ne (h.asked.tag ∙ ap (slot_at q) is) in
        record {
          index = h.index;
          class = h.class;
          instruction = h.instruction;
          asked = asked_still h.index t k.word k.pc h.class h.instruction other h.asked;
          tag = h.tag;
          a = h.a;
          b = h.b;
        }

    module _ (v : ℕ) (brought : v ≡ result served (ahead served x i)) where
      -- an operand that waited for entry i has its value, and any other is as it was
      operand-filled : (n r : ℕ) (o : Operand) → n < q.count → OperandTied served q x n r o
          → OperandTied served (replaced (slot_at q i) e q) x n r (filled (slot_at q i) v o)
      operand-filled n r (Value w) lt h = h
      operand-filled n r (Awaits t) lt h =
          cond_both (eqb t (slot_at q i)) (Value v) (Awaits t) (OperandTied served (replaced (slot_at q i) e q) x n r)
          (λ is.
          let same : h.from ≡ i =
          slot_apart q h.from i (omega (arith, h.older, lt, few)) (omega (arith, few, below))
          (sym h.tag ∙ eqb-true t (slot_at q i) is) in
          brought ∙ (ap (λ (k : ℕ). result served (ahead served x k)) (sym same) ∙ sym h.value))
          (λ is.
          let other : h.from ≡ i → ⊥ = λ same. eqb-false t (slot_at q i) is (h.tag ∙ ap (slot_at q) same) in
          record {
            from = h.from;
            older = h.older;
            tag = h.tag;
            waits = other_waits h.from (omega (arith, h.older, lt)) other h.waits;
            value = h.value;
          })

      station-woken : (s : Station) → (s.tag ≡ slot_at q i → ⊥) → StationTied served q x s
          → StationTied served (replaced (slot_at q i) e q) x (woken (slot_at q i) v s)
      station-woken s ne h =
          let n = h.index in
          let f = h.instruction in
          let other : n ≡ i → ⊥ = λ is. ne (h.asked.tag ∙ ap (slot_at q) is) in
          record {
            index = n;
            instruction = f;
            asked = asked_still n s.tag s.word s.pc s.class f other h.asked;
            a = operand-filled n f.rs1 s.a h.asked.below h.a;
            b = operand-filled n f.rs2 s.b h.asked.below h.b;
          }

slot_still : (q : Buffer) (t : ℕ) (e : Entry) (w : Option ℕ) → slot_of (replaced t e q) w ≡ slot_of q w
slot_still q t e None = refl
slot_still q t e (Some n) = refl

entry_finished : (served : Class → Bool) (y : Machine) (e : Entry) (o : Outcome) → EntryTied served y e
    → judged_outcome e.destination (Some o) ≡ judgement_of served y → EntryTied served y (finished_entry o e)
entry_finished served y e o h is =
    record {
      pc = h.pc;
      word = h.word;
      destination = h.destination;
      result = λ j found. cc;
    }

-- the core when the outcome for the entry in slot t has arrived
abbrev arrived : ℕ → Outcome → Core → Core
arrived t o c =
    record {
      machine = c.machine;
      line = c.line;
      served = c.served;
      fetch = c.fetch;
      buffer = replaced t (finished_entry o (entry_in c.buffer t)) c.buffer;
      stations = all_woken t (outcome_brings o) c.stations;
      tags = c.tags;
    }

module _ {A : Type 0} (m : UnitModel A) (served : Class → Bool) (stay : ℕ) (c : Core) (u u' : A)
    (h : Tied m served stay c u) (call : StepCall m u true u') where
  moved : (t : ℕ) → Moved true (offers_tag (m.offer u) t) (m.held u t) (m.held u' t)
  moved = (call.stepped h.shaped.sounds).0

  -- nothing is offered
  none_completes : m.offer u ≡ None → Tied m served stay c u'
  none_completes none =
      let shape = h.shaped in
      let fell : (t : ℕ) → Fell 1 (m.held u t) (m.held u' t) =
      λ t. subst (λ (o : Option Offer). Moved true (offers_tag o t) (m.held u t) (m.held u' t)) none (moved t) in
      record {
        shaped = record {
          registers = shape.registers;
          entries = shape.entries;
          places = shape.places;
          tags = shape.tags;
          head = shape.head;
          count = shape.count;
          knows = shape.knows;
          serves = λ a. call.same.serves a ∙ shape.serves a;
          stays = call.same.stay ∙ shape.stays;
          sounds = (call.stepped shape.sounds).1;
        };
        entries = h.entries;
        tags = h.tags;
        work = record {
          stations = h.work.stations;
          jobs = λ t k is.
              let was = was-held 1 (m.held u t) (m.held u' t) k (fell t) is in
              subst (JobTied served c.buffer c.machine t) (sym was.job) (h.work.jobs t was.held was.is);
          apart = all_weaker (λ s. m.held u s.tag ≡ None) (λ s. m.held u' s.tag ≡ None) c.stations.places
              (λ s free. moved_free (offers_tag (m.offer u) s.tag) (m.held u s.tag) (m.held u' s.tag) (moved s.tag) free)
              h.work.apart;
          somewhere = λ i lt is.
              let t = slot_at c.buffer i in
              elim (h.work.somewhere i lt is) [
                | inl waiting ↦ inl waiting
                | inr held ↦
                    let stays = stays-held 1 (m.held u t) (m.held u' t) held.0 (fell t) held.1 in
                    inr (stays.held, stays.is)
              ];
        };
      }

  -- the outcome o of entry i is offered
  module _ (o : Offer) (offered : m.offer u ≡ Some o) (k : Held) (held : m.held u o.tag ≡ Some k)
      (out : job_outcome k.job ≡ Some o.outcome) where
    the_job : JobTied served c.buffer c.machine o.tag k.job
    the_job = h.work.jobs o.tag k held

    abbrev i : ℕ
    i = the_job.index

    abbrev e : Entry
    e = finished_entry o.outcome (entry_at c.buffer i)

    finishes : judged_outcome (entry_at c.buffer i).destination (Some o.outcome) ≡ judgement_of served (ahead served c.machine i)
    finishes =
        job-finishes served c.buffer c.machine o.tag (entry_at c.buffer i).destination k.job o.outcome the_job out
        (h.entries.entries i the_job.asked.below).destination

    value_is : outcome_brings o.outcome ≡ result served (ahead served c.machine i)
    value_is = same_brought (entry_at c.buffer i).destination o.outcome ∙ ap brings finishes

    -- the tag that arrived is held, so no other is it
    not_it : (t : ℕ) → m.held u t ≡ None → t ≡ slot_at c.buffer i → ⊥
    not_it t free is = absurd (none-some k (sym free ∙ ap (m.held u) (is ∙ sym the_job.asked.tag) ∙ held))

    unoffered : (t : ℕ) → offers_tag (m.offer u) t ≡ false → t ≡ slot_at c.buffer i → ⊥
    unoffered t none is =
        true≢false (sym (eq-eqb o.tag t (the_job.asked.tag ∙ sym is)) ∙ (ap (λ (x : Option Offer). offers_tag x t) (sym offered) ∙ none))

    still_held : (t : ℕ) → (t ≡ slot_at c.buffer i → ⊥) → Fell 1 (m.held u t) (m.held u' t)
    still_held t ne =
        subst (λ (b : Bool). Moved true b (m.held u t) (m.held u' t))
        (ap (λ (x : Option Offer). offers_tag x t) offered ∙ ne_eqb o.tag t (λ is. ne (sym is ∙ the_job.asked.tag)))
        (moved t)

    arrives-tied : Tied m served stay (arrived (slot_at c.buffer i) o.outcome c) u'
    arrives-tied =
        let x = c.machine in
        let q = c.buffer in
        let shape = h.shaped in
        let few = shape.count in
        let below = the_job.asked.below in
        record {
          shaped = record {
            registers = shape.registers;
            entries = replaced-length q (slot_at q i) e shape.entries;
            places = length-map c.stations.places (woken_place (slot_at q i) (outcome_brings o.outcome)) ∙ shape.places;
            tags = shape.tags;
            head = shape.head;
            count = shape.count;
            knows = shape.knows;
            serves = λ a. call.same.serves a ∙ shape.serves a;
            stays = call.same.stay ∙ shape.stays;
            sounds = (call.stepped shape.sounds).1;
          };
          entries = record {
            fetch = h.entries.fetch;
            entries = λ n lt.
                elim (eqb_tells n i) [
                  | inl is ↦
                      subst (λ (y : ℕ). EntryTied served (ahead served x y) (entry_at (replaced (slot_at q i) e q) y)) (sym is.1)
                      (subst (EntryTied served (ahead served x i)) (sym (replaced_at q e i shape.entries))
                      (entry_finished served (ahead served x i) (entry_at q i) o.outcome (h.entries.entries i below) finishes))
                  | inr is ↦
                      subst (EntryTied served (ahead served x n))
                      (sym (replaced_other q e i n (omega (arith, few, below)) (omega (arith, few, lt)) is.1))
                      (h.entries.entries n lt)
                ];
          };
          tags = λ r lt. h.tags r lt ∙ sym (slot_still q (slot_at q i) e (writer served x r q.count));
          work = record {
            stations = all_woken_lem (λ s. StationTied served q x s × (m.held u s.tag ≡ None)) (StationTied served (replaced (slot_at q i) e q) x)
                (slot_at q i) (outcome_brings o.outcome) c.stations.places
                (λ s both. station-woken served q x i e few below (outcome_brings o.outcome) value_is s (not_it s.tag both.1) both.0)
                (all_both (StationTied served q x) (λ s. m.held u s.tag ≡ None) c.stations.places h.work.stations h.work.apart);
            jobs = λ t p is.
                let not-offered = was_not_offered (offers_tag (m.offer u) t) (m.held u t) (m.held u' t) p (moved t) is in
                let was = was-held 1 (m.held u t) (m.held u' t) p not-offered.1 is in
                subst (JobTied served (replaced (slot_at q i) e q) x t) (sym was.job)
                (job_still served q x i e few below t was.held.job (unoffered t not-offered.0) (h.work.jobs t was.held was.is));
            apart = all_woken_lem (λ s. m.held u s.tag ≡ None) (λ s. m.held u' s.tag ≡ None)
                (slot_at q i) (outcome_brings o.outcome) c.stations.places
                (λ s free. moved_free (offers_tag (m.offer u) s.tag) (m.held u s.tag) (m.held u' s.tag) (moved s.tag) free)
                h.work.apart;
            somewhere = λ n lt is.
                let other : n ≡ i → ⊥ = λ same.
                absurd (none-some _ (sym is
                ∙ (ap (λ (y : ℕ). (entry_at (replaced (slot_at q i) e q) y).result) same
                ∙ ap (λ (y : Entry). y.result) (replaced_at q e i shape.entries)))) in
                let lt16 : n < 16 = omega (arith, few, lt) in
                let i16 : i < 16 = omega (arith, few, below) in
                let before : (entry_at q n).result ≡ None = sym (ap (λ (y : Entry). y.result) (replaced_other q e i n i16 lt16 other)) ∙ is in
                elim (h.work.somewhere n lt before) [
                  | inl waiting ↦ inl (in_woken (slot_at q n) (slot_at q i) (outcome_brings o.outcome) c.stations.places waiting)
                  | inr old ↦
                      let fell = still_held (slot_at q n) (λ same. other (slot_apart q n i lt16 i16 same)) in
                      let stays = stays-held 1 (m.held u (slot_at q n)) (m.held u' (slot_at q n)) old.0 fell old.1 in
                      inr (stays.held, stays.is)
                ];
          };
        }

    offer-completes : Tied m served stay (completed_by (Some o) c) u'
    offer-completes = subst (λ (t : ℕ). Tied m served stay (arrived t o.outcome c) u') (sym the_job.asked.tag) arrives-tied

  pub complete-keeps : Keeps m → Tied m served stay (completed_by (m.offer u) c) u'
  complete-keeps keeps = by (m.offer u) refl
    where
      by : (x : Option Offer) → m.offer u ≡ x → Tied m served stay (completed_by x c) u'
      by None is = none_completes is
      by (Some o) is =
          let found = keeps.offers u h.shaped.sounds o is in
          offer-completes o is found.0 found.1 found.2
