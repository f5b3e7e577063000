-- A retirement keeps the tie: one that goes on to pc + 4 shifts the plan by one, any other leaves nothing in flight.
-- Assumes nothing.
use Rattle.std.proofs.Common.{◌≡◌, ℕ, zero, suc, ◌-◌, ◌<◌, Bool, true, false, cond, not, ◌&&◌, ◌||◌, eqb, ◌⊎◌, length, set, Some, None, Option, sym, refl, ap, ◌∙◌, subst, inl, inr, arith, length-set}
use Rattle.std.proofs.lemmas.Bool.{eqb-true, false≢true, cond_both}
use Rattle.std.proofs.lemmas.Bool.Decides.{eqb_tells}
use Rattle.isa.specs.declared.instruction.Instruction.{Instruction}
use Rattle.isa.specs.declared.operation.Class.{Class}
use Rattle.isa.specs.declared.outcome.Outcome.{Outcome}
use Rattle.isa.specs.declared.outcome.Outcome.TheVariants.{Done, Misaligned}
use Rattle.execute.specs.Outcomes.{sum, outcome_of}
use Rattle.machine.specs.declared.decode.Decoded.{Decoded}
use Rattle.machine.specs.declared.decode.Decoded.TheVariants.{Trap as AsksTrap, Return as AsksReturn, Work}
use Rattle.machine.specs.declared.judgement.Judgement.{Judgement}
use Rattle.machine.specs.declared.judgement.Judgement.TheVariants.{Trap, Return, Write}
use Rattle.machine.specs.declared.record.Record.{Record}
use Rattle.machine.specs.declared.record.Retirement.TheVariants.{Plain, Interrupted}
use Rattle.machine.specs.declared.state.Machine.{Machine}
use Rattle.machine.specs.Causes.{external_interrupt}
use Rattle.machine.specs.States.{register_of, with_register}
use Rattle.machine.specs.Step.{judged_outcome, judged, judgement_of, entered, returned, written, recorded, settled, applied}
use Rattle.units.specs.declared.job.Job.{Job}
use Rattle.units.specs.Meaning.{UnitModel}
use Rattle.units.specs.Calls.{ClearCall}
use Rattle.tables.specs.declared.buffer.Buffer.{Buffer}
use Rattle.tables.specs.declared.entry.Entry.{Entry}
use Rattle.tables.specs.declared.station.Operand.{Operand}
use Rattle.tables.specs.declared.station.Operand.TheVariants.{Value, Awaits}
use Rattle.tables.specs.declared.station.Station.{Station}
use Rattle.tables.specs.Buffers.{slot_at, entry_at, popped}
use Rattle.tables.specs.Tagging.{tag_of, names, untagged}
use Rattle.law.specs.declared.state.Core.{Core}
use Rattle.law.specs.Pasts.{Sized}
use Rattle.law.specs.Steps.{brings, diverts, retired_on, flushed}
use Rattle.law.proofs.Plan.{destination_of, asks, result, straight, ahead, writes, writer}
use Rattle.law.proofs.Tied.{InStation, slot_of, EntryTied, Brought, OperandTied, Asked, StationTied, JobTied, HeldUnder, Tied}
use Rattle.law.proofs.Ahead.{shifted, writer-below, writer_shift}
use Rattle.law.proofs.Slots.{slot_apart, slot_of_head, slot_popped, popped_at}
use Rattle.law.proofs.Places.{all_weaker}
use Rattle.law.proofs.RegisterTags.{tag_left, untagged-length}
use Rattle.law.proofs.Starting.{nothing_in_flight}

-- what a step leaves of the registers ---------------------------------------------

written-sized : (rd v n : ℕ) (x : Machine) → Sized x → Sized (written rd v n x)
written-sized rd v n x h =
    cond_both (eqb rd 0) x.registers (set x.registers rd v) (λ rs. length rs ≡ 32) (λ _. h) (λ _. length-set x.registers rd v ∙ h)

settled-sized : (line : Bool) (pc w d v : ℕ) (x : Machine) → Sized x → Sized (settled line pc w d v x).0
settled-sized line pc w d v x h =
    cond_both (line && x.trap.mie) (recorded pc w Interrupted d v (entered x.pc external_interrupt x)) (recorded pc w Plain d v x)
    (λ (y : Machine × Record). Sized y.0) (λ _. h) (λ _. h)

pub step_sized : (line : Bool) (w : ℕ) (j : Judgement) (x : Machine) → Sized x → Sized (applied line w j x).0
step_sized line w (Trap c) x h = h
step_sized line w Return x h = settled-sized line x.pc w 0 0 (returned x) h
step_sized line w (Write rd v n) x h =
    settled-sized line x.pc w rd (cond (eqb rd 0) 0 v) (written rd v n x) (written-sized rd v n x h)

-- a retirement that goes on to pc + 4 is one step of the plan -------------------------

outcome_writes : (d rd v n : ℕ) (o : Option Outcome) → judged_outcome d o ≡ Write rd v n → d ≡ rd
outcome_writes d rd v n (Some (Done w p)) e = cc
outcome_writes d rd v n (Some Misaligned) e = cc
outcome_writes d rd v n None e = cc

judged-writes : (d : Decoded) (x : Machine) (rd v n : ℕ) → judged d x ≡ Write rd v n → destination_of d ≡ rd
judged-writes (AsksTrap c) x rd v n e = cc
judged-writes AsksReturn x rd v n e = cc
judged-writes (Work c i) x rd v n e =
    outcome_writes i.rd rd v n (outcome_of i x.pc (register_of x i.rs1) (register_of x i.rs2)) e

no_or : (a b : Bool) → (not a || b) ≡ false → (a ≡ true) × (b ≡ false)
no_or true b e = (refl, e)
no_or false b e = absurd (false≢true (sym e))

uninterrupted : (line : Bool) (pc w d v : ℕ) (x : Machine) → (line && x.trap.mie) ≡ false → (settled line pc w d v x).0 ≡ x
uninterrupted line pc w d v x e =
    ap (λ (b : Bool). (cond b (recorded pc w Interrupted d v (entered x.pc external_interrupt x)) (recorded pc w Plain d v x)).0) e

-- only an instruction that writes its result and goes on to pc + 4, with no interrupt, leaves younger ones in flight:
-- a trap, MRET and an interrupt never do, wherever they go
pub record GoesOn (line : Bool) (j : Judgement) (x : Machine) : Type 0 where
  pub rd : ℕ
  pub value : ℕ
  pub writes : j ≡ Write rd value (sum x.pc 4)
  pub quiet : (line && x.trap.mie) ≡ false

pub only_writes_go_on : (line : Bool) (j : Judgement) (x : Machine) → diverts line j x ≡ false → GoesOn line j x
only_writes_go_on line (Trap c) x f = absurd (false≢true (sym f))
only_writes_go_on line Return x f = absurd (false≢true (sym f))
only_writes_go_on line (Write rd v n) x f =
    let both = no_or (eqb n (sum x.pc 4)) (line && x.trap.mie) f in
    record { rd = rd; value = v; writes = ap (Write rd v) (eqb-true n (sum x.pc 4) both.0); quiet = both.1 }

-- a retirement writes its result to its destination, whatever tag the register has, and whether it is interrupted or not
pub result_is_written : (line : Bool) (w rd v n : ℕ) (x : Machine)
    → (applied line w (Write rd v n) x).0.registers ≡ with_register rd v x.registers
result_is_written line w rd v n x =
    cond_both (line && x.trap.mie) (recorded x.pc w Interrupted rd (cond (eqb rd 0) 0 v) (entered n external_interrupt (written rd v n x)))
    (recorded x.pc w Plain rd (cond (eqb rd 0) 0 v) (written rd v n x))
    (λ (y : Machine × Record). y.0.registers ≡ with_register rd v x.registers) (λ _. refl) (λ _. refl)

module _ (served : Class → Bool) where
  -- so it is one step of the plan
  pub goes_straight : (line : Bool) (w : ℕ) (j : Judgement) (x : Machine) → j ≡ judgement_of served x → diverts line j x ≡ false
      → (applied line w j x).0 ≡ straight served x
  goes_straight line w j x e f =
      let on = only_writes_go_on line j x f in
      let next = sum x.pc 4 in
      let is : judgement_of served x ≡ Write on.rd on.value next = sym e ∙ on.writes in
      ap (λ (i : Judgement). (applied line w i x).0) on.writes
      ∙ (uninterrupted line x.pc w on.rd (cond (eqb on.rd 0) 0 on.value) (written on.rd on.value next x) on.quiet
      ∙ (ap (λ (d : ℕ). written d on.value next x) (sym (judged-writes (asks served x) x on.rd on.value next is))
      ∙ ap (λ (i : Judgement). written (destination_of (asks served x)) (brings i) next x) (sym is)))

  -- the plan, shifted by one: the oldest entry is done, so nothing waits for it
  module _ (q : Buffer) (x : Machine) (j : Judgement) (done : (entry_at q 0).result ≡ Some j) where
    oldest_is_done : {X : Type 0} → (entry_at q 0).result ≡ None → X
    oldest_is_done e = cc

    still_waits : (n : ℕ) → (entry_at q (suc n)).result ≡ None → (entry_at (popped q) n).result ≡ None
    still_waits n e = ap (λ (y : Entry). y.result) (popped_at q n) ∙ e

    operand_shift : (i r : ℕ) (o : Operand) → OperandTied served q x (suc i) r o → OperandTied served (popped q) (straight served x) i r o
    operand_shift i r (Value v) h = h
    operand_shift i r (Awaits t) h = brought h.from h.older h.tag h.waits h.value
      where
        brought : (n : ℕ) → n < suc i → t ≡ slot_at q n → (entry_at q n).result ≡ None
            → register_of (ahead served x (suc i)) r ≡ result served (ahead served x n) → Brought served (popped q) (straight served x) i r t
        brought zero lt e w v = oldest_is_done w
        brought (suc n) lt e w v =
            record { from = n; older = omega (arith, lt); tag = e ∙ sym (slot_popped q n); waits = still_waits n w; value = v }

    asked_shift : (i t w p : ℕ) (c : Class) (f : Instruction) → Asked served q x (suc i) t w p c f
        → Asked served (popped q) (straight served x) i t w p c f
    asked_shift i t w p c f h =
        record {
          below = omega (arith, h.below);
          tag = h.tag ∙ sym (slot_popped q i);
          waits = still_waits i h.waits;
          work = h.work;
          word = h.word;
          pc = h.pc;
        }

    station_shift : (s : Station) → StationTied served q x s → StationTied served (popped q) (straight served x) s
    station_shift s h = at h.index h.instruction h.asked h.a h.b
      where
        at : (i : ℕ) (f : Instruction) → Asked served q x i s.tag s.word s.pc s.class f
            → OperandTied served q x i f.rs1 s.a → OperandTied served q x i f.rs2 s.b
            → StationTied served (popped q) (straight served x) s
        at zero f k a b = oldest_is_done k.waits
        at (suc i) f k a b =
            record {
              index = i;
              instruction = f;
              asked = asked_shift i s.tag s.word s.pc s.class f k;
              a = operand_shift i f.rs1 s.a a;
              b = operand_shift i f.rs2 s.b b;
            }

    job_shift : (t : ℕ) (k : Job) → JobTied served q x t k → JobTied served (popped q) (straight served x) t k
    job_shift t k h = at h.index h.class h.instruction h.asked h.tag h.a h.b
      where
        at : (i : ℕ) (c : Class) (f : Instruction) → Asked served q x i t k.word k.pc c f → k.tag ≡ t
            → k.a ≡ register_of (ahead served x i) f.rs1 → k.b ≡ register_of (ahead served x i) f.rs2
            → JobTied served (popped q) (straight served x) t k
        at zero c f y e a b = oldest_is_done y.waits
        at (suc i) c f y e a b =
            record {
              index = i;
              class = c;
              instruction = f;
              asked = asked_shift i t k.word k.pc c f y;
              tag = e;
              a = a;
              b = b;
            }

  -- a register's tag, when the oldest entry leaves -------------------------------------

  none_either_way : (b : Bool) (o : Option ℕ) → cond b o o ≡ o
  none_either_way true o = refl
  none_either_way false o = refl

  keeps-tag : (b : Bool) (o : Option ℕ) → cond (b && false) None o ≡ o
  keeps-tag true o = refl
  keeps-tag false o = refl

  and_right : (a b : Bool) → (a && b) ≡ true → b ≡ true
  and_right true b e = e
  and_right false b e = absurd (false≢true e)

  not_slot : (s t : ℕ) → (s ≡ t → ⊥) → eqb s t ≡ false
  not_slot s t ne = elim (eqb_tells s t) [ inl e ↦ absurd (ne e.1) | inr e ↦ e.0 ]

  is_slot : (s t : ℕ) → s ≡ t → eqb s t ≡ true
  is_slot s t same = elim (eqb_tells s t) [ inl e ↦ e.0 | inr e ↦ absurd (e.1 same) ]

  -- w is the youngest writer among those that stay, and first says whether the oldest writes the register
  tag_shift : (q : Buffer) (d r n : ℕ) (first : Bool) (w : Option ℕ) → q.head < 16 → n < 16
      → ((k : ℕ) → w ≡ Some k → k < n) → (first ≡ true → eqb d r ≡ true)
      → cond (eqb d r && names (slot_of q (shifted first w)) q.head) None (slot_of q (shifted first w)) ≡ slot_of (popped q) w
  tag_shift q d r n first (Some k) h lt below writes =
      let apart : slot_at q (suc k) ≡ q.head → ⊥ =
      λ e. absurd (omega (arith, below k refl, lt, slot_apart q (suc k) 0 (omega (arith, below k refl, lt)) (omega arith) (e ∙ sym (slot_of_head q h)))) in
      ap (λ (b : Bool). cond (eqb d r && b) None (Some (slot_at q (suc k)))) (not_slot (slot_at q (suc k)) q.head apart)
      ∙ (keeps-tag (eqb d r) (Some (slot_at q (suc k))) ∙ ap Some (sym (slot_popped q k)))
  tag_shift q d r n true None h lt below writes =
      ap (λ (b : Bool). cond (b && eqb (slot_at q 0) q.head) None (Some (slot_at q 0))) (writes refl)
      ∙ ap (λ (b : Bool). cond b None (Some (slot_at q 0))) (is_slot (slot_at q 0) q.head (slot_of_head q h))
  tag_shift q d r n false None h lt below writes = none_either_way (eqb d r && false) None

-- the core after a retirement that goes on to pc + 4, by its machine
abbrev left_with : Core → Entry → Machine → Core
left_with c e y =
    record {
      machine = y;
      line = c.line;
      served = c.served;
      fetch = c.fetch;
      buffer = popped c.buffer;
      stations = c.stations;
      tags = untagged e.destination c.buffer.head c.tags;
    }

module _ {A : Type 0} (m : UnitModel A) (served : Class → Bool) (stay : ℕ) where
  shift_tied : (c : Core) (u : A) (j : Judgement) → Tied m served stay c u → 0 < c.buffer.count
      → (entry_at c.buffer 0).result ≡ Some j
      → Tied m served stay (left_with c (entry_at c.buffer 0) (straight served c.machine)) u
  shift_tied c u j h some done =
      let x = c.machine in
      let q = c.buffer in
      let e = entry_at q 0 in
      let n = q.count - 1 in
      let whole : q.count ≡ suc n = omega (arith, some) in
      let shape = h.shaped in
      record {
        shaped = record {
          registers = written-sized (destination_of (asks served x)) (result served x) (sum x.pc 4) x shape.registers;
          entries = shape.entries;
          places = shape.places;
          tags = untagged-length e.destination q.head c.tags shape.tags;
          head = omega arith;
          count = omega (arith, shape.count);
          knows = shape.knows;
          serves = shape.serves;
          stays = shape.stays;
          sounds = shape.sounds;
        };
        entries = record {
          fetch = h.entries.fetch ∙ ap (λ (i : ℕ). (ahead served x i).pc) whole;
          entries = λ i lt.
              subst (EntryTied served (ahead served x (suc i))) (sym (popped_at q i)) (h.entries.entries (suc i) (omega (arith, lt)));
        };
        tags = λ r lt.
            let w = writer served (straight served x) r n in
            let before : tag_of c.tags r ≡ slot_of q (shifted (writes served x 0 r) w) =
            h.tags r lt ∙ ap (slot_of q) (ap (writer served x r) whole ∙ writer_shift served x r n) in
            tag_left e.destination q.head c.tags r shape.tags lt
            ∙ (ap (λ (o : Option ℕ). cond (eqb e.destination r && names o q.head) None o) before
            ∙ tag_shift served q e.destination r n (writes served x 0 r) w shape.head (omega (arith, shape.count, some))
            (λ k is. writer-below served (straight served x) r n k is)
            (λ is. ap (λ (d : ℕ). eqb d r) (h.entries.entries 0 some).destination ∙ and_right served (not (eqb r 0)) (eqb (destination_of (asks served x)) r) is));
        work = record {
          stations = all_weaker (StationTied served q x) (StationTied served (popped q) (straight served x)) c.stations.places
              (station_shift served q x j done) h.work.stations;
          jobs = λ t k is. job_shift served q x j done t k.job (h.work.jobs t k is);
          apart = h.work.apart;
          somewhere = λ i lt is.
              subst (λ (t : ℕ). InStation t c.stations.places ⊎ HeldUnder m served stay u t) (sym (slot_popped q i))
              (h.work.somewhere (suc i) (omega (arith, lt)) (sym (ap (λ (y : Entry). y.result) (popped_at q i)) ∙ is));
        };
      }

  -- the oldest entry leaves
  pub retire-keeps : (c : Core) (u : A) (j : Judgement) → Tied m served stay c u → 0 < c.buffer.count
      → (entry_at c.buffer 0).result ≡ Some j → diverts c.line j c.machine ≡ false
      → Tied m served stay (retired_on c (entry_at c.buffer 0) j) u
  retire-keeps c u j h some done on =
      let e = entry_at c.buffer 0 in
      subst (λ (y : Machine). Tied m served stay (left_with c e y) u)
      (sym (goes_straight served c.line e.word j c.machine ((h.entries.entries 0 some).result j done) on))
      (shift_tied c u j h some done)

  -- everything in flight is dropped
  pub flush_ties : (c : Core) (u u' : A) (e : Entry) (j : Judgement) → Tied m served stay c u → ClearCall m u u'
      → Tied m served stay (flushed c e j) u'
  flush_ties c u u' e j h call =
      let shape = h.shaped in
      nothing_in_flight m served stay (flushed c e j) u'
      (record {
        registers = step_sized c.line e.word j c.machine shape.registers;
        entries = shape.entries;
        places = refl;
        tags = refl;
        head = omega arith;
        count = omega arith;
        knows = shape.knows;
        serves = λ a. call.same.serves a ∙ shape.serves a;
        stays = call.same.stay ∙ shape.stays;
        sounds = call.sounds;
      })
      refl refl refl refl call.empty
