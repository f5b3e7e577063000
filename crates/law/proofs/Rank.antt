-- The rank: a bound on the cycle calls until a retirement, by where the oldest entry is.
-- Assumes nothing.
use Rattle.std.proofs.Common.{◌≡◌, ℕ, ◌+◌, ◌<◌, ◌≤◌, Bool, true, false, Some, None, Option, sym, refl, ap, ◌∙◌, subst, inl, inr, arith}
use Rattle.std.proofs.lemmas.Option.{none-some}
use Rattle.std.proofs.lemmas.Bool.{cases_Bool, cases_lt}
use Rattle.isa.specs.declared.instruction.Instruction.{Instruction}
use Rattle.isa.specs.declared.operation.Class.{Class}
use Rattle.machine.specs.declared.decode.Decoded.TheVariants.{Work}
use Rattle.machine.specs.declared.judgement.Judgement.{Judgement}
use Rattle.machine.specs.declared.state.Machine.{Machine}
use Rattle.machine.specs.Step.{fetched}
use Rattle.units.specs.declared.job.Job.{Job}
use Rattle.units.specs.Meaning.{UnitModel, Held, Empty}
use Rattle.units.specs.Calls.{Keeps}
use Rattle.tables.specs.declared.buffer.Buffer.{Buffer}
use Rattle.tables.specs.declared.station.Operand.{Operand}
use Rattle.tables.specs.declared.station.Operand.TheVariants.{Value, Awaits}
use Rattle.tables.specs.declared.station.Station.{Station}
use Rattle.tables.specs.Buffers.{slot_at, entry_at}
use Rattle.tables.specs.Waiting.{job_with, job_of, age, goes}
use Rattle.law.specs.declared.state.Core.{Core}
use Rattle.law.specs.Laws.{wait}
use Rattle.law.proofs.Plan.{asks, ahead}
use Rattle.law.proofs.Tied.{AllStations, InStation, OperandTied, StationTied, Tied}
use Rattle.law.proofs.Decoding.{work-served}
use Rattle.law.proofs.Slots.{slot_apart, slot_of_head, age_of_slot}
use Rattle.law.proofs.Places.{all_weaker, all_both, station_in, job-tag, goes_from, goes_oldest, none_goes, not_blocked, blocked_by}
use Rattle.law.proofs.Dispatching.{job-tied}

module _ {A : Type 0} (m : UnitModel A) (stay : ℕ) where
  -- every job held is due within n accepted steps
  abbrev pub DueWithin : A → ℕ → Type 0
  DueWithin u n = (t : ℕ) (h : Held) → m.held u t ≡ Some h → h.due ≤ n

  -- A core retires within n cycle calls. While the oldest entry waits in a station nothing younger goes, so that after the
  -- longest due held, at least `low`, there is room for it; with nothing in flight `gap` calls beside its stay suffice.
  pub data Within (low gap : ℕ) (c : Core) (u : A) (n : ℕ) : Type 0 where
    done : (j : Judgement) → 0 < c.buffer.count → (entry_at c.buffer 0).result ≡ Some j → 1 ≤ n → Within low gap c u n
    held : (h : Held) → 0 < c.buffer.count → m.held u (slot_at c.buffer 0) ≡ Some h → h.due + 1 ≤ n → Within low gap c u n
    waiting : (longest : ℕ) → 0 < c.buffer.count → InStation (slot_at c.buffer 0) c.stations.places
        → low ≤ longest → DueWithin u longest → longest + stay + 1 ≤ n → Within low gap c u n
    empty : c.buffer.count ≡ 0 → stay + gap ≤ n → Within low gap c u n

  pub within_one : (low gap : ℕ) (c : Core) (u : A) (n : ℕ) → 1 ≤ gap → Within low gap c u n → 1 ≤ n
  within_one low gap c u n g (done j some is le) = le
  within_one low gap c u n g (held h some is le) = omega (arith, le)
  within_one low gap c u n g (waiting longest some at l dues le) = omega (arith, le)
  within_one low gap c u n g (empty none le) = omega (arith, le, g)

-- the station of the oldest entry ------------------------------------------------------------

same_work : (a b : Class) (f g : Instruction) → Work a f ≡ Work b g → a ≡ b
same_work a b f g e = cc

module _ (served : Class → Bool) (q : Buffer) (x : Machine) where
  -- the oldest entry has no older one to wait for
  ready-operand : (r : ℕ) (o : Operand) → OperandTied served q x 0 r o → (v : ℕ) × (o ≡ Value v)
  ready-operand r (Value v) h = (v, refl)
  ready-operand r (Awaits t) h = absurd (omega (arith, h.older))

  pub record Oldest (s : Station) : Type 0 where
    pub instruction : Instruction
    pub work : asks served x ≡ Work s.class instruction
    pub job : Job
    pub ready : job_of s ≡ Some job

  job_of_lem : (s : Station) (v w : ℕ) → s.a ≡ Value v → s.b ≡ Value w → (j : Job) × (job_of s ≡ Some j)
  job_of_lem s v w a b = (
    record { tag = s.tag; word = s.word; pc = s.pc; a = v; b = w },
    ap (λ (o : Operand). job_with o s.b s) a ∙ ap (λ (o : Operand). job_with (Value v) o s) b,
  )

  pub oldest-station : (s : Station) → StationTied served q x s → q.count ≤ 16 → s.tag ≡ slot_at q 0 → Oldest s
  oldest-station s h few is =
      let first : h.index ≡ 0 =
      slot_apart q h.index 0 (omega (arith, h.asked.below, few)) (omega arith) (sym h.asked.tag ∙ is) in
      let f = h.instruction in
      let a = ready-operand f.rs1 s.a (subst (λ (i : ℕ). OperandTied served q x i f.rs1 s.a) first h.a) in
      let b = ready-operand f.rs2 s.b (subst (λ (i : ℕ). OperandTied served q x i f.rs2 s.b) first h.b) in
      let job = job_of_lem s a.0 b.0 a.1 b.1 in
      record {
        instruction = f;
        work = ap (λ (i : ℕ). asks served (ahead served x i)) (sym first) ∙ h.asked.work;
        job = job.0;
        ready = job.1;
      }

module _ {A : Type 0} (m : UnitModel A) (keeps : Keeps m) (served : Class → Bool) (stay : ℕ)
    (c : Core) (u : A) (h : Tied m served stay c u) where
  head_slot : slot_at c.buffer 0 ≡ c.buffer.head
  head_slot = slot_of_head c.buffer h.shaped.head

  oldest_of : (s : Station) → StationTied served c.buffer c.machine s → s.tag ≡ c.buffer.head
      → Oldest served c.buffer c.machine s
  oldest_of s tied is = oldest-station served c.buffer c.machine s tied h.shaped.count (is ∙ sym head_slot)

  -- what waits for the oldest entry's outcome is of one class
  one_class : (s z : Station) → StationTied served c.buffer c.machine s → StationTied served c.buffer c.machine z
      → s.tag ≡ c.buffer.head → z.tag ≡ c.buffer.head → s.class ≡ z.class
  one_class s z hs hz es ez =
      let os = oldest_of s hs es in
      let oz = oldest_of z hz ez in
      same_work s.class z.class os.instruction oz.instruction (sym os.work ∙ oz.work)

  module _ (at : InStation (slot_at c.buffer 0) c.stations.places) where
    pub head-station : (s : Station) × (s.tag ≡ slot_at c.buffer 0) × StationTied served c.buffer c.machine s
    head-station = station_in (StationTied served c.buffer c.machine) (slot_at c.buffer 0) c.stations.places h.work.stations at

    abbrev pub first : Station
    first = head-station.0

    first_tag : first.tag ≡ c.buffer.head
    first_tag = head-station.1 ∙ head_slot

    first_oldest : Oldest served c.buffer c.machine first
    first_oldest = oldest_of first head-station.2 first_tag

    -- all stations of the oldest entry have room, or none has
    rooms_alike : (b : Bool) → m.room u first.class ≡ b
        → AllStations (λ s. s.tag ≡ c.buffer.head → m.room u s.class ≡ b) c.stations.places
    rooms_alike b room =
        all_weaker (StationTied served c.buffer c.machine) (λ s. s.tag ≡ c.buffer.head → m.room u s.class ≡ b)
        c.stations.places
        (λ s tied is. ap (m.room u) (one_class s first tied head-station.2 is first_tag) ∙ room)
        h.work.stations

    -- without room for it nothing goes
    pub waits_for_room : m.room u first.class ≡ false → goes (m.room u) c.buffer.head c.stations.places ≡ None
    waits_for_room room =
        blocked_by (m.room u) c.buffer.head c.stations.places (rooms_alike false room)
        (subst (λ (t : ℕ). InStation t c.stations.places) head_slot at)

    -- another view of a station of the oldest entry, with what holds of every station
    with_all : (P : Station → Type 0) → AllStations P c.stations.places
        → (s : Station) × (s.tag ≡ slot_at c.buffer 0) × (StationTied served c.buffer c.machine s × P s)
    with_all P all =
        station_in (λ s. StationTied served c.buffer c.machine s × P s) (slot_at c.buffer 0) c.stations.places
        (all_both (StationTied served c.buffer c.machine) P c.stations.places h.work.stations all) at

    -- with room for it something goes
    pub goes_with_room : m.room u first.class ≡ true → goes (m.room u) c.buffer.head c.stations.places ≡ None → ⊥
    goes_with_room room none =
        let stuck = none_goes (m.room u) c.buffer.head c.stations.places
        (not_blocked (m.room u) c.buffer.head c.stations.places (rooms_alike true room)) none in
        let z = with_all (λ s. m.room u s.class ≡ true → job_of s ≡ None) stuck in
        let tag : z.0.tag ≡ c.buffer.head = z.1 ∙ head_slot in
        let roomy : m.room u z.0.class ≡ true = ap (m.room u) (one_class z.0 first z.2.0 head-station.2 tag first_tag) ∙ room in
        absurd (none-some _ (sym (z.2.1 roomy) ∙ (oldest_of z.0 z.2.0 tag).ready))

    -- and it is the oldest entry
    pub head_goes : (j : Job) → goes (m.room u) c.buffer.head c.stations.places ≡ Some j → j.tag ≡ slot_at c.buffer 0
    head_goes j is =
        let q = c.buffer in
        let room : m.room u first.class ≡ true =
        elim (cases_Bool (m.room u first.class)) [
          | inl has ↦ has
          | inr lacks ↦ absurd (none-some j (sym (waits_for_room lacks) ∙ is))
        ] in
        let from = goes_from (m.room u) q.head (StationTied served q c.machine) c.stations.places j is h.work.stations in
        let job = job-tied served q c.machine from.0 j from.3 from.1 in
        let z = with_all (λ s. (i : Job) → m.room u s.class ≡ true → job_of s ≡ Some i → age q.head j.tag ≤ age q.head i.tag)
        (goes_oldest (m.room u) q.head c.stations.places j is) in
        let tag : z.0.tag ≡ q.head = z.1 ∙ head_slot in
        let roomy : m.room u z.0.class ≡ true = ap (m.room u) (one_class z.0 first z.2.0 head-station.2 tag first_tag) ∙ room in
        let one = oldest_of z.0 z.2.0 tag in
        let older : age q.head j.tag ≤ age q.head one.job.tag = z.2.1 one.job roomy one.ready in
        let zero-age : age q.head one.job.tag ≡ 0 =
        ap (age q.head) (job-tag z.0 one.job one.ready ∙ z.1) ∙ age_of_slot q 0 h.shaped.head (omega arith) in
        let its-age : age q.head j.tag ≡ job.index =
        ap (age q.head) job.asked.tag
        ∙ age_of_slot q job.index h.shaped.head (omega (arith, job.asked.below, h.shaped.count)) in
        let first-index : job.index ≡ 0 = omega (arith, older, zero-age, its-age) in
        job.asked.tag ∙ ap (slot_at q) first-index

    -- with nothing held there is room for it
    pub room_when_empty : Empty m u → m.room u first.class ≡ true
    room_when_empty none =
        keeps.empty_rooms u h.shaped.sounds none first.class
        (h.shaped.serves first.class
        ∙ work-served served (fetched c.machine) first.class first_oldest.instruction first_oldest.work)

  -- every rank is at most the longest wait -----------------------------------------------------

  pub nothing_held : c.buffer.count ≡ 0 → Empty m u
  nothing_held none t = by (m.held u t) refl
    where
      by : (o : Option Held) → m.held u t ≡ o → o ≡ None
      by None is = refl
      by (Some k) is = absurd (omega (arith, (h.work.jobs t k is).asked.below, none))

  pub within-wait : Within m stay 1 3 c u (wait stay)
  within-wait = elim (cases_lt 0 c.buffer.count) [ inl some ↦ busy some (entry_at c.buffer 0).result refl | inr none ↦ empty (omega (arith, none)) (omega arith) ]
    where
      long : 1 ≤ stay
      long = omega (arith, keeps.stays u, h.shaped.stays)

      short : (t : ℕ) (k : Held) → m.held u t ≡ Some k → k.due ≤ stay
      short t k is = omega (arith, (keeps.dues u h.shaped.sounds t k is).1, h.shaped.stays)

      busy : 0 < c.buffer.count → (o : Option Judgement) → (entry_at c.buffer 0).result ≡ o → Within m stay 1 3 c u (wait stay)
      busy some (Some j) is = done j some is (omega arith)
      busy some None is =
          elim (h.work.somewhere 0 some is) [
            | inl at ↦ waiting stay some at long short (omega arith)
            | inr k ↦ held k.0 some k.1 (omega (arith, short (slot_at c.buffer 0) k.0 k.1))
          ]
