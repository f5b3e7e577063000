-- No call raises the rank, and complete and dispatch together lower it.
-- Assumes nothing.
use Rattle.std.proofs.Common.{◌≡◌, ℕ, zero, suc, ◌<◌, ◌≤◌, Bool, true, false, not, ◌&&◌, ◌⊎◌, Some, None, Option, sym, refl, ap, ◌∙◌, subst, inl, inr, arith}
use Rattle.std.proofs.lemmas.Option.{none-some}
use Rattle.std.proofs.lemmas.Bool.{true≢false, eqb-true}
use Rattle.isa.specs.declared.operation.Class.{Class}
use Rattle.machine.specs.declared.judgement.Judgement.{Judgement}
use Rattle.machine.specs.Step.{judged_outcome}
use Rattle.units.specs.declared.job.Job.{Job}
use Rattle.units.specs.declared.job.Offer.{Offer}
use Rattle.units.specs.Meaning.{UnitModel, Held, Empty, Moved, offers_tag}
use Rattle.units.specs.Calls.{Keeps, TakeCall, StepCall}
use Rattle.tables.specs.declared.entry.Entry.{Entry}
use Rattle.tables.specs.Buffers.{slot_at, entry_at, entry_in, pushed, replaced}
use Rattle.tables.specs.Waiting.{any_free, goes}
use Rattle.law.specs.declared.state.Core.{Core}
use Rattle.law.specs.Steps.{asked, new_entry, needs_station, issued, sent, outcome_brings, finished_entry, completed_by}
use Rattle.law.proofs.Tied.{InStation, StationTied, JobTied, Tied}
use Rattle.law.proofs.Slots.{replaced_at, replaced_other, pushed_old}
use Rattle.law.proofs.Places.{all_weaker, in_woken, free_if_none, job-tag}
use Rattle.law.proofs.Falls.{was-held, Stays, stays-held, was_not_offered, holds_it}
use Rattle.law.proofs.Issuing.{still_in, issue-keeps}
use Rattle.law.proofs.Dispatching.{sender, takes}
use Rattle.law.proofs.Rank.{DueWithin, Within, done, held, waiting, empty, nothing_held, within_one, head_goes, goes_with_room, room_when_empty}

module _ {A : Type 0} (m : UnitModel A) (keeps : Keeps m) (served : Class → Bool) (stay : ℕ)
    (c : Core) (u : A) (h : Tied m served stay c u) where
  -- dispatch -----------------------------------------------------------------------------------

  module _ (u' : A) (j : Job) (is : goes (m.room u) c.buffer.head c.stations.places ≡ Some j) (call : TakeCall m u j u') where
    taken : (t : ℕ) → (t ≡ j.tag → ⊥) → (k : Held) → m.held u t ≡ Some k → Stays 0 k (m.held u' t)
    taken t other k was = stays-held 0 (m.held u t) (m.held u' t) k ((takes m served stay c u u' j h is call).0.others t other) was

    pub dispatch-within : (low gap n : ℕ) → Within m stay low gap c u n → Within m stay 1 gap (sent j c) u' n
    dispatch-within low gap n (done i some at le) = done i some at le
    dispatch-within low gap n (held k some at le) =
        let from = sender m served stay c u u' j h is call in
        let other : slot_at c.buffer 0 ≡ j.tag → ⊥ = λ e.
        none-some k (sym from.free ∙ ap (m.held u) (sym (job-tag from.station j from.job) ∙ sym e) ∙ at) in
        let stays = taken (slot_at c.buffer 0) other k at in
        held stays.held some stays.is (omega (arith, stays.due, le))
    dispatch-within low gap n (waiting longest some at l dues le) =
        let first = head_goes m keeps served stay c u h at j is in
        let took = takes m served stay c u u' j h is call in
        let k = holds_it j (m.held u' j.tag) took.0.joins in
        let now : m.held u' (slot_at c.buffer 0) ≡ Some k.0 = ap (m.held u') (sym first) ∙ k.1 in
        held k.0 some now
        (omega (arith, le, (keeps.dues u' took.1 (slot_at c.buffer 0) k.0 now).1, call.same.stay, h.shaped.stays))
    dispatch-within low gap n (empty none le) =
        absurd (omega (arith, (sender m served stay c u u' j h is call).tied.asked.below, none))

  -- where nothing goes, something is held
  pub dispatch-refused : (gap n : ℕ) → goes (m.room u) c.buffer.head c.stations.places ≡ None
      → Within m stay 0 gap c u n → Within m stay 1 gap c u n
  dispatch-refused gap n none (done j some at le) = done j some at le
  dispatch-refused gap n none (held k some at le) = held k some at le
  dispatch-refused gap n none (waiting zero some at l dues le) =
      absurd (goes_with_room m keeps served stay c u h at (room_when_empty m keeps served stay c u h at nothing) none)
    where
      nothing : Empty m u
      nothing t = by (m.held u t) refl
        where
          by : (o : Option Held) → m.held u t ≡ o → o ≡ None
          by None is = refl
          by (Some k) is = absurd (omega (arith, dues t k is, (keeps.dues u h.shaped.sounds t k is).0))
  dispatch-refused gap n none (waiting (suc longest) some at l dues le) = waiting (suc longest) some at (omega arith) dues le
  dispatch-refused gap n none (empty e le) = empty e le

  -- issue ----------------------------------------------------------------------------------------

  pub issue-within : (gap n : ℕ) (left : c.buffer.count < 16) → (needs_station (asked c) && not (any_free c.stations.places)) ≡ false
      → 2 ≤ gap → Within m stay 1 gap c u n → Within m stay 1 3 (issued c) u n
  issue-within gap n left free g (done j some at le) =
      done j (omega arith) (ap (λ (y : Entry). y.result) (pushed_old c.buffer (new_entry c) 0 some left) ∙ at) le
  issue-within gap n left free g (held k some at le) = held k (omega arith) at le
  issue-within gap n left free g (waiting longest some at l dues le) =
      waiting longest (omega arith) (still_in m served stay c u h left (asked c) (slot_at c.buffer 0) at) l dues le
  issue-within gap n left free g (empty none le) = by (entry_at (pushed (new_entry c) c.buffer) 0).result refl
    where
      by : (o : Option Judgement) → (entry_at (pushed (new_entry c) c.buffer) 0).result ≡ o → Within m stay 1 3 (issued c) u n
      by (Some j) is = done j (omega arith) is (omega (arith, le, g))
      by None is =
          let after = issue-keeps m served stay c u h left free in
          elim (after.work.somewhere 0 (omega arith) is) [
            | inl at ↦
                waiting 1 (omega arith) at (omega arith)
                (λ t k was. absurd (none-some k (sym (nothing_held m keeps served stay c u h none t) ∙ was))) (omega (arith, le, g))
            | inr k ↦ absurd (none-some k.0 (sym (nothing_held m keeps served stay c u h none (slot_at c.buffer 0)) ∙ k.1))
          ]

  -- with nothing in flight there is a free station
  pub free_when_empty : c.buffer.count ≡ 0 → any_free c.stations.places ≡ true
  free_when_empty none =
      free_if_none c.stations.places
      (all_weaker (StationTied served c.buffer c.machine) (λ s. ⊥) c.stations.places
      (λ s tied. absurd (omega (arith, tied.asked.below, none))) h.work.stations)
      h.shaped.places

  -- complete -------------------------------------------------------------------------------------

  module _ (u' : A) (call : StepCall m u true u') where
    stepped : (t : ℕ) → Moved true (offers_tag (m.offer u) t) (m.held u t) (m.held u' t)
    stepped = (call.stepped h.shaped.sounds).0

    the_job : (o : Offer) (is : m.offer u ≡ Some o)
        → JobTied served c.buffer c.machine o.tag (keeps.offers u h.shaped.sounds o is).0.job
    the_job o is = let found = keeps.offers u h.shaped.sounds o is in h.work.jobs o.tag found.0 found.1

    -- an oldest entry that is done stays so
    pub done_after : (x : Option Offer) → m.offer u ≡ x → (j : Judgement) → (entry_at c.buffer 0).result ≡ Some j
        → (i : Judgement) × ((entry_at (completed_by x c).buffer 0).result ≡ Some i)
    done_after None is j at = (j, at)
    done_after (Some o) is j at =
        let q = c.buffer in
        let job = the_job o is in
        let e = finished_entry o.outcome (entry_in q o.tag) in
        let other : 0 ≡ job.index → ⊥ =
        λ same. absurd (none-some j (sym (ap (λ (n : ℕ). (entry_at q n).result) same ∙ job.asked.waits) ∙ at)) in (
          j,
          ap (λ (y : Entry). y.result)
              (ap (λ (t : ℕ). entry_at (replaced t e q) 0) job.asked.tag
              ∙ replaced_other q e job.index 0 (omega (arith, job.asked.below, h.shaped.count)) (omega arith) other)
              ∙ at,
        )

    -- an oldest entry whose tag arrives is done
    arrives : (x : Option Offer) → offers_tag x (slot_at c.buffer 0) ≡ true
        → (i : Judgement) × ((entry_at (completed_by x c).buffer 0).result ≡ Some i)
    arrives None is = absurd (true≢false (sym is))
    arrives (Some o) is =
        let q = c.buffer in
        let e = finished_entry o.outcome (entry_in q o.tag) in (
          judged_outcome (entry_in q o.tag).destination (Some o.outcome),
          ap (λ (y : Entry). y.result)
              (ap (λ (t : ℕ). entry_at (replaced t e q) 0) (eqb-true o.tag (slot_at q 0) is) ∙ replaced_at q e 0 h.shaped.entries),
        )

    in_after : (x : Option Offer) (t : ℕ) → InStation t c.stations.places → InStation t (completed_by x c).stations.places
    in_after None t at = at
    in_after (Some o) t at = in_woken t o.tag (outcome_brings o.outcome) c.stations.places at

    count_after : (x : Option Offer) → (completed_by x c).buffer.count ≡ c.buffer.count
    count_after None = refl
    count_after (Some o) = refl

    slot_after : (x : Option Offer) → slot_at (completed_by x c).buffer 0 ≡ slot_at c.buffer 0
    slot_after None = refl
    slot_after (Some o) = refl

    -- every due that is still held fell by one
    dues_after : (n : ℕ) → DueWithin m stay u (suc n) → DueWithin m stay u' n
    dues_after n dues t k is =
        let not-offered = was_not_offered (offers_tag (m.offer u) t) (m.held u t) (m.held u' t) k (stepped t) is in
        let was = was-held 1 (m.held u t) (m.held u' t) k not-offered.1 is in
        omega (arith, was.due, dues t was.held was.is)

    held_after : (k : Held) (n : ℕ) → 0 < c.buffer.count → m.held u (slot_at c.buffer 0) ≡ Some k → k.due ≤ n
        → (b : Bool) → offers_tag (m.offer u) (slot_at c.buffer 0) ≡ b → Within m stay 0 2 (completed_by (m.offer u) c) u' n
    held_after k n some at le true is =
        let now = arrives (m.offer u) is in
        done now.0 (omega (arith, some, count_after (m.offer u))) now.1
        (omega (arith, le, (keeps.dues u h.shaped.sounds (slot_at c.buffer 0) k at).0))
    held_after k n some at le false is =
        let t = slot_at c.buffer 0 in
        let fell = subst (λ (b : Bool). Moved true b (m.held u t) (m.held u' t)) is (stepped t) in
        let stays = stays-held 1 (m.held u t) (m.held u' t) k fell at in
        held stays.held (omega (arith, some, count_after (m.offer u))) (ap (m.held u') (slot_after (m.offer u)) ∙ stays.is)
        (omega (arith, stays.due, le))

    -- unless the oldest entry is done, one call fewer is left
    pub complete_ticks : (n : ℕ) → (entry_at c.buffer 0).result ≡ None ⊎ (c.buffer.count ≡ 0) → Within m stay 1 3 c u (suc n)
        → Within m stay 0 2 (completed_by (m.offer u) c) u' n
    complete_ticks n (inl not_done) (done j some at le) = cc
    complete_ticks n (inr none) (done j some at le) = absurd (omega (arith, none, some))
    complete_ticks n not_done (held k some at le) =
        held_after k n some at (omega (arith, le)) (offers_tag (m.offer u) (slot_at c.buffer 0)) refl
    complete_ticks n not_done (waiting zero some at l dues le) = absurd (omega (arith, l))
    complete_ticks n not_done (waiting (suc longest) some at l dues le) =
        waiting longest (omega (arith, some, count_after (m.offer u)))
        (subst (λ (t : ℕ). InStation t (completed_by (m.offer u) c).stations.places) (sym (slot_after (m.offer u)))
        (in_after (m.offer u) (slot_at c.buffer 0) at))
        (omega arith) (dues_after longest dues) (omega (arith, le))
    complete_ticks n not_done (empty none le) = empty (count_after (m.offer u) ∙ none) (omega (arith, le))

    -- a call later nothing is lost
    relax : (d : Core) (n : ℕ) → Within m stay 0 2 d u' n → Within m stay 1 3 d u' (suc n)
    relax d n (done j some at le) = done j some at (omega (arith, le))
    relax d n (held k some at le) = held k some at (omega (arith, le))
    relax d n (waiting longest some at l dues le) =
        waiting (suc longest) some at (omega arith) (λ t k is. omega (arith, dues t k is)) (omega (arith, le))
    relax d n (empty none le) = empty none (omega (arith, le))

    pub complete-within : (n : ℕ) → Within m stay 1 3 c u n → Within m stay 1 3 (completed_by (m.offer u) c) u' n
    complete-within n w = by (entry_at c.buffer 0).result refl c.buffer.count refl n w
      where
        by : (o : Option Judgement) → (entry_at c.buffer 0).result ≡ o → (k : ℕ) → c.buffer.count ≡ k
            → (n : ℕ) → Within m stay 1 3 c u n → Within m stay 1 3 (completed_by (m.offer u) c) u' n
        by o at k some zero w = absurd (omega (arith, within_one m stay 1 3 c u 0 (omega arith) w))
        by o at zero none (suc n) w = relax (completed_by (m.offer u) c) n (complete_ticks n (inr none) w)
        by None at (suc k) some (suc n) w = relax (completed_by (m.offer u) c) n (complete_ticks n (inl at) w)
        by (Some j) at (suc k) some (suc n) w =
            let after = done_after (m.offer u) refl j at in
            done after.0 (omega (arith, some, count_after (m.offer u))) after.1 (omega arith)
