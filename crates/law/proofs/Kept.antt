-- What each call on a tied core does to the machine, and to the rank.
-- Assumes nothing.
use Rattle.std.proofs.Common.{◌≡◌, ℕ, suc, ◌<◌, ◌≤◌, Bool, true, false, cond, not, ◌&&◌, eqb, ◌⊎◌, Some, None, Ok, Err, Option, Result, sym, refl, ap, ◌∙◌, subst, inl, inr, arith}
use Rattle.std.proofs.lemmas.Bool.{true≢false, leb-true, leb-false, not_from_true, and_right, cond-true, cond-false}
use Rattle.std.proofs.lemmas.Bool.Decides.{eqb_tells}
use Rattle.isa.specs.declared.operation.Class.{Class}
use Rattle.refusal.specs.declared.IssueFault.{IssueFault}
use Rattle.refusal.specs.declared.IssueFault.TheVariants.{BufferFull, NoStation}
use Rattle.refusal.specs.declared.NoneGoes.{NoneGoes}
use Rattle.refusal.specs.declared.RetireFault.{RetireFault}
use Rattle.machine.specs.declared.judgement.Judgement.{Judgement}
use Rattle.machine.specs.declared.record.Record.{Record}
use Rattle.machine.specs.declared.state.Machine.{Machine}
use Rattle.machine.specs.Step.{word_or0, fetched, applied, step}
use Rattle.units.specs.declared.job.Job.{Job}
use Rattle.units.specs.declared.job.Offer.{Offer}
use Rattle.units.specs.Meaning.{UnitModel}
use Rattle.units.specs.Calls.{Keeps}
use Rattle.tables.specs.declared.entry.Entry.{Entry}
use Rattle.tables.specs.Buffers.{entry_at, full, oldest_entry, next_slot}
use Rattle.tables.specs.Waiting.{any_free}
use Rattle.law.specs.declared.state.Core.{Core}
use Rattle.law.specs.declared.state.Running.{Running}
use Rattle.law.specs.Steps.{asked, needs_station, issue_answer, issued, completed_by, diverts, stepped, retired_on, lined}
use Rattle.law.specs.Calls.{IssueCall, IssueDoes, DispatchCall, DispatchDoes, going, CompleteCall, RetireCall, Retires, RetiresEntry, RetireMoves, CycleCall, record_of, LineCall}
use Rattle.law.specs.Laws.{Fed}
use Rattle.law.proofs.Tied.{Tied}
use Rattle.law.proofs.Issuing.{issue-keeps}
use Rattle.law.proofs.Dispatching.{dispatch-keeps}
use Rattle.law.proofs.Completing.{complete-keeps}
use Rattle.law.proofs.Retiring.{retire-keeps, flush_ties}
use Rattle.law.proofs.Rank.{Within, done, held, waiting, empty}
use Rattle.law.proofs.Ticks.{dispatch-within, dispatch-refused, issue-within, free_when_empty, complete_ticks, complete-within}

-- when issue is refused ------------------------------------------------------------------------

issue_ok : (full lacks : Bool) (s t : ℕ) → cond full (Err BufferFull) (cond lacks (Err NoStation) (Ok s)) ≡ Ok t
    → (full ≡ false) × (lacks ≡ false)
issue_ok true lacks s t e = cc
issue_ok false true s t e = cc
issue_ok false false s t e = (refl, refl)

issue_err : (full lacks : Bool) (s : ℕ) (f : IssueFault) → cond full (Err BufferFull) (cond lacks (Err NoStation) (Ok s)) ≡ Err f
    → (full ≡ true) ⊎ (lacks ≡ true)
issue_err true lacks s f e = inl refl
issue_err false true s f e = inr refl
issue_err false false s f e = cc

-- the core as programmers see it, with its line
abbrev pub seen_core : Core → Fed
seen_core c = record { machine = c.machine; line = c.line }

abbrev pub seen : {A : Type 0} → Running A → Fed
seen k = seen_core k.core

abbrev pub with_line : Bool → Machine → Fed
with_line l x = record { machine = x; line = l }

-- the machine makes one step
abbrev pub once : (Class → Bool) → Fed → Fed
once served f = record { machine = (step served f.line f.machine).0; line = f.line }

module _ {A : Type 0} (m : UnitModel A) (keeps : Keeps m) (served : Class → Bool) (stay : ℕ) where
  -- the core is tied to the plan
  abbrev pub Holds : Running A → Type 0
  Holds k = Tied m served stay k.core k.unit

  -- the core retires within n cycle calls
  abbrev pub Soon : ℕ → ℕ → Running A → ℕ → Type 0
  Soon low gap k n = Within m stay low gap k.core k.unit n

  -- a state by its two parts
  at_state : (P : Core → A → Type 0) (k : Running A) (c : Core) (u : A) → k.core ≡ c → k.unit ≡ u → P c u → P k.core k.unit
  at_state P k c u ec eu p = subst (λ (d : Core). P d k.unit) (sym ec) (subst (P c) (sym eu) p)

  -- issue ----------------------------------------------------------------------------------------

  abbrev lacks : Core → Bool
  lacks c = needs_station (asked c) && not (any_free c.stations.places)

  issue_left : (c : Core) (t : ℕ) → issue_answer c ≡ Ok t → (c.buffer.count < 16) × (lacks c ≡ false)
  issue_left c t e =
      let ok = issue_ok (full c.buffer) (lacks c) (next_slot c.buffer) t e in
      (leb-false 16 c.buffer.count ok.0, ok.1)

  pub issue-holds : (k k' : Running A) (a : Result ℕ IssueFault) → Holds k → IssueCall m k a k' → Holds k' × (seen k' ≡ seen k)
  issue-holds k k' a h call = by (issue_answer k.core) refl call.does
    where
      by : (o : Result ℕ IssueFault) → issue_answer k.core ≡ o → IssueDoes m o k k' → Holds k' × (seen k' ≡ seen k)
      by (Ok t) is does =
          let left = issue_left k.core t is in (
            at_state (Tied m served stay) k' (issued k.core) k.unit does.0 does.1
                (issue-keeps m served stay k.core k.unit h left.0 left.1),
            ap seen_core does.0,
          )
      by (Err f) is does = (subst Holds (sym does) h, ap seen does)

  -- with nothing in flight issue is not refused
  issue_not_refused : (k : Running A) (f : IssueFault) → Holds k → issue_answer k.core ≡ Err f → k.core.buffer.count ≡ 0 → ⊥
  issue_not_refused k f h is none =
      let c = k.core in
      elim (issue_err (full c.buffer) (lacks c) (next_slot c.buffer) f is) [
        | inl e ↦ absurd (omega (arith, leb-true 16 c.buffer.count e, none))
        | inr e ↦
            true≢false (sym e ∙ and_right (needs_station (asked c)) (not (any_free c.stations.places))
            (not_from_true (any_free c.stations.places) (free_when_empty m keeps served stay c k.unit h none)))
      ]

  pub issue-soon : (k k' : Running A) (a : Result ℕ IssueFault) (gap n : ℕ) → Holds k → IssueCall m k a k' → 2 ≤ gap
      → Soon 1 gap k n → Soon 1 3 k' n
  issue-soon k k' a gap n h call g w = by (issue_answer k.core) refl call.does w
    where
      by : (o : Result ℕ IssueFault) → issue_answer k.core ≡ o → IssueDoes m o k k' → Soon 1 gap k n → Soon 1 3 k' n
      by (Ok t) is does w =
          let left = issue_left k.core t is in
          at_state (λ c u. Within m stay 1 3 c u n) k' (issued k.core) k.unit does.0 does.1
          (issue-within m keeps served stay k.core k.unit h gap n left.0 left.1 g w)
      by (Err f) is does (done j some at le) = subst (λ x. Soon 1 3 x n) (sym does) (done j some at le)
      by (Err f) is does (held i some at le) = subst (λ x. Soon 1 3 x n) (sym does) (held i some at le)
      by (Err f) is does (waiting longest some at l dues le) = subst (λ x. Soon 1 3 x n) (sym does) (waiting longest some at l dues le)
      by (Err f) is does (empty none le) = absurd (issue_not_refused k f h is none)

  -- dispatch -------------------------------------------------------------------------------------

  pub dispatch-holds : (k k' : Running A) (a : Result ℕ NoneGoes) → Holds k → DispatchCall m k a k' → Holds k' × (seen k' ≡ seen k)
  dispatch-holds k k' a h call = by (going m k) refl call.does
    where
      by : (o : Option Job) → going m k ≡ o → DispatchDoes m o k k' → Holds k' × (seen k' ≡ seen k)
      by None is does = (subst Holds (sym does) h, ap seen does)
      by (Some j) is does = (
        subst (λ (c : Core). Tied m served stay c k'.unit) (sym does.0)
            (dispatch-keeps m served stay k.core k.unit k'.unit j h is does.1),
        ap seen_core does.0,
      )

  pub dispatch-soon : (k k' : Running A) (a : Result ℕ NoneGoes) (gap n : ℕ) → Holds k → DispatchCall m k a k'
      → Soon 0 gap k n → Soon 1 gap k' n
  dispatch-soon k k' a gap n h call w = by (going m k) refl call.does
    where
      by : (o : Option Job) → going m k ≡ o → DispatchDoes m o k k' → Soon 1 gap k' n
      by None is does = subst (λ x. Soon 1 gap x n) (sym does) (dispatch-refused m keeps served stay k.core k.unit h gap n is w)
      by (Some j) is does =
          subst (λ (c : Core). Within m stay 1 gap c k'.unit n) (sym does.0)
          (dispatch-within m keeps served stay k.core k.unit h k'.unit j is does.1 0 gap n w)

  -- a bound that holds for some longest due holds for any lower least one
  pub loosen : (gap n : ℕ) (k : Running A) → Soon 1 gap k n → Soon 0 gap k n
  loosen gap n k (done j some at le) = done j some at le
  loosen gap n k (held i some at le) = held i some at le
  loosen gap n k (waiting longest some at l dues le) = waiting longest some at (omega arith) dues le
  loosen gap n k (empty none le) = empty none le

  -- complete -------------------------------------------------------------------------------------

  seen_completed : (x : Option Offer) (c : Core)
      → seen_core (completed_by x c) ≡ seen_core c
  seen_completed None c = refl
  seen_completed (Some o) c = refl

  pub complete-holds : (k k' : Running A) (a : Option ℕ) → Holds k → CompleteCall m k a k' → Holds k' × (seen k' ≡ seen k)
  complete-holds k k' a h call = (
    subst (λ (c : Core). Tied m served stay c k'.unit) (sym call.core)
        (complete-keeps m served stay k.core k.unit k'.unit h call.unit keeps),
    ap seen_core call.core ∙ seen_completed (m.offer k.unit) k.core,
  )

  pub complete-soon : (k k' : Running A) (a : Option ℕ) (n : ℕ) → Holds k → CompleteCall m k a k' → Soon 1 3 k n → Soon 1 3 k' n
  complete-soon k k' a n h call w =
      subst (λ (c : Core). Within m stay 1 3 c k'.unit n) (sym call.core)
      (complete-within m keeps served stay k.core k.unit h k'.unit call.unit n w)

  pub complete_sooner : (k k' : Running A) (a : Option ℕ) (n : ℕ) → Holds k → CompleteCall m k a k'
      → (entry_at k.core.buffer 0).result ≡ None ⊎ (k.core.buffer.count ≡ 0) → Soon 1 3 k (suc n) → Soon 0 2 k' n
  complete_sooner k k' a n h call not_done w =
      subst (λ (c : Core). Within m stay 0 2 c k'.unit n) (sym call.core)
      (complete_ticks m keeps served stay k.core k.unit h k'.unit call.unit n not_done w)

  -- retire ---------------------------------------------------------------------------------------

  -- a retirement is one step of the machine, and its record is the step's
  abbrev pub Retired : Running A → Result Record RetireFault → Running A → Type 0
  Retired k (Ok r) k' = Holds k' × (r ≡ (step served k.core.line k.core.machine).1) × (seen k' ≡ once served (seen k))
  Retired k (Err f) k' = (k' ≡ k) × ((entry_at k.core.buffer 0).result ≡ None ⊎ (k.core.buffer.count ≡ 0))

  module _ (k k' : Running A) (h : Holds k) (some : 0 < k.core.buffer.count) (j : Judgement)
      (is : (entry_at k.core.buffer 0).result ≡ Some j) where
    abbrev oldest : Entry
    oldest = entry_at k.core.buffer 0

    one_step : stepped k.core oldest j ≡ step served k.core.line k.core.machine
    one_step =
        ap (λ (w : ℕ). applied k.core.line w j k.core.machine) (h.entries.entries 0 some).word
        ∙ ap (λ (i : Judgement). applied k.core.line (word_or0 (fetched k.core.machine)) i k.core.machine)
        ((h.entries.entries 0 some).result j is)

    moves : (b : Bool) → diverts k.core.line j k.core.machine ≡ b → RetireMoves m b oldest j k k'
        → Holds k' × (seen k' ≡ once served (seen k))
    moves true div does = (
      subst (λ (c : Core). Tied m served stay c k'.unit) (sym does.0)
          (flush_ties m served stay k.core k.unit k'.unit oldest j h does.1),
      ap seen_core does.0
          ∙ ap (λ (x : Machine × Record). with_line k.core.line x.0) one_step,
    )
    moves false div does = (
      at_state (Tied m served stay) k' (retired_on k.core oldest j) k.unit does.0 does.1
          (retire-keeps m served stay k.core k.unit j h some is div),
      ap seen_core does.0
          ∙ ap (λ (x : Machine × Record). with_line k.core.line x.0) one_step,
    )

  -- by the oldest entry, which is none where the count is 0
  oldest_is : (c : Core)
      → ((c.buffer.count ≡ 0) × (oldest_entry c.buffer ≡ None)) ⊎ ((0 < c.buffer.count) × (oldest_entry c.buffer ≡ Some (entry_at c.buffer 0)))
  oldest_is c =
      elim (eqb_tells c.buffer.count 0) [
        | inl e ↦ inl (e.1, cond-true (eqb c.buffer.count 0) None (Some (entry_at c.buffer 0)) e.0)
        | inr e ↦ inr (omega (arith, e.1), cond-false (eqb c.buffer.count 0) None (Some (entry_at c.buffer 0)) e.0)
      ]

  retire_entry : (k k' : Running A) (a : Result Record RetireFault) → Holds k → 0 < k.core.buffer.count
      → (o : Option Judgement) → (entry_at k.core.buffer 0).result ≡ o → RetiresEntry m (entry_at k.core.buffer 0) o k a k' → Retired k a k'
  retire_entry k k' a h some None is does = subst (λ (y : Result Record RetireFault). Retired k y k') (sym does.0) (does.1, inl is)
  retire_entry k k' a h some (Some j) is does =
      let moved = moves k k' h some j is (diverts k.core.line j k.core.machine) refl does.1 in
      subst (λ (y : Result Record RetireFault). Retired k y k') (sym does.0)
      (moved.0, ap (λ (x : Machine × Record). x.1) (one_step k k' h some j is), moved.1)

  pub retire-holds : (k k' : Running A) (a : Result Record RetireFault) → Holds k → RetireCall m k a k' → Retired k a k'
  retire-holds k k' a h call =
      elim (oldest_is k.core) [
        | inl none ↦
            let does : Retires m None k a k' = subst (λ (o : Option Entry). Retires m o k a k') none.1 call in
            subst (λ (y : Result Record RetireFault). Retired k y k') (sym does.0) (does.1, inr none.0)
        | inr some ↦
            let e = entry_at k.core.buffer 0 in
            let does : Retires m (Some e) k a k' = subst (λ (o : Option Entry). Retires m o k a k') some.1 call in
            retire_entry k k' a h some.0 e.result refl does
      ]

  -- cycle ----------------------------------------------------------------------------------------

  abbrev pub Cycled : Running A → Option Record → Running A → Type 0
  Cycled k (Some r) k' = Holds k' × (r ≡ (step served k.core.line k.core.machine).1) × (seen k' ≡ once served (seen k))
  Cycled k None k' = Holds k' × (seen k' ≡ seen k) × ((n : ℕ) → Soon 1 3 k (suc n) → Soon 1 3 k' n)

  -- after the retirement nothing reaches the machine
  rest_holds : (k k' : Running A) (a : Option Record) (call : CycleCall m k a k') → Holds call.retired
      → Holds k' × (seen k' ≡ seen call.retired)
  rest_holds k k' a call h =
      let one = complete-holds call.retired call.completed call.completion h call.completes in
      let two = dispatch-holds call.completed call.dispatched call.sending one.0 call.dispatches in
      let three = issue-holds call.dispatched k' call.issuing two.0 call.issues in
      (three.0, three.1 ∙ (two.1 ∙ one.1))

  cycle-soon : (k k' : Running A) (a : Option Record) (call : CycleCall m k a k') (n : ℕ) → Holds call.retired
      → (entry_at call.retired.core.buffer 0).result ≡ None ⊎ (call.retired.core.buffer.count ≡ 0)
      → Soon 1 3 call.retired (suc n) → Soon 1 3 k' n
  cycle-soon k k' a call n h not_done w =
      let one = complete-holds call.retired call.completed call.completion h call.completes in
      let two = dispatch-holds call.completed call.dispatched call.sending one.0 call.dispatches in
      issue-soon call.dispatched k' call.issuing 2 n two.0 call.issues (omega arith)
      (dispatch-soon call.completed call.dispatched call.sending 2 n one.0 call.dispatches
      (complete_sooner call.retired call.completed call.completion n h call.completes not_done w))

  pub cycle-holds : (k k' : Running A) (a : Option Record) → Holds k → CycleCall m k a k' → Cycled k a k'
  cycle-holds k k' a h call =
      subst (λ (o : Option Record). Cycled k o k') (sym call.answers)
      (by call.retirement (retire-holds k call.retired call.retirement h call.retires))
    where
      by : (r : Result Record RetireFault) → Retired k r call.retired → Cycled k (record_of r) k'
      by (Ok r) did =
          let rest = rest_holds k k' a call did.0 in
          (rest.0, did.1, rest.1 ∙ did.2)
      by (Err f) did =
          let same = did.0 in
          let h' : Holds call.retired = subst Holds (sym same) h in
          let rest = rest_holds k k' a call h' in (
            rest.0,
            rest.1 ∙ ap seen same,
            λ n w. cycle-soon k k' a call n h'
                (subst (λ (x : Running A). (entry_at x.core.buffer 0).result ≡ None ⊎ (x.core.buffer.count ≡ 0)) (sym same) did.1)
                (subst (λ (x : Running A). Soon 1 3 x (suc n)) (sym same) w),
          )

  -- the line -------------------------------------------------------------------------------------

  lined-tied : (c : Core) (u : A) (up : Bool) → Tied m served stay c u → Tied m served stay (lined up c) u
  lined-tied c u up h =
      let shape = h.shaped in
      record {
        shaped = record {
          registers = shape.registers;
          entries = shape.entries;
          places = shape.places;
          tags = shape.tags;
          head = shape.head;
          count = shape.count;
          knows = shape.knows;
          serves = shape.serves;
          stays = shape.stays;
          sounds = shape.sounds;
        };
        entries = h.entries;
        tags = h.tags;
        work = record {
          stations = h.work.stations;
          jobs = h.work.jobs;
          apart = h.work.apart;
          somewhere = h.work.somewhere;
        };
      }

  lined-within : (c : Core) (u : A) (up : Bool) (n : ℕ) → Within m stay 1 3 c u n → Within m stay 1 3 (lined up c) u n
  lined-within c u up n (done j some at le) = done j some at le
  lined-within c u up n (held i some at le) = held i some at le
  lined-within c u up n (waiting longest some at l dues le) = waiting longest some at l dues le
  lined-within c u up n (empty none le) = empty none le

  pub line_holds : (k k' : Running A) (up : Bool) → Holds k → LineCall m up k k' → Holds k' × (seen k' ≡ with_line up k.core.machine)
  line_holds k k' up h call = (
    at_state (Tied m served stay) k' (lined up k.core) k.unit call.core call.unit
        (lined-tied k.core k.unit up h),
    ap seen_core call.core,
  )

  pub line_soon : (k k' : Running A) (up : Bool) (n : ℕ) → LineCall m up k k' → Soon 1 3 k n → Soon 1 3 k' n
  line_soon k k' up n call w =
      at_state (λ c u. Within m stay 1 3 c u n) k' (lined up k.core) k.unit call.core call.unit
      (lined-within k.core k.unit up n w)
