-- The law of every past, by induction on the past.
-- Assumes nothing.
use Rattle.std.proofs.Common.{◌≡◌, ℕ, zero, suc, ◌+◌, ◌*◌, ◌<◌, ◌≤◌, Bool, true, false, List, [], ◌∷◌, ◌++◌, Some, None, Ok, Err, Option, Result, sym, refl, ap, ◌∙◌, subst, suc-mul, arith}
use Rattle.isa.specs.declared.operation.Class.{Class}
use Rattle.refusal.specs.declared.RetireFault.{RetireFault}
use Rattle.machine.specs.declared.record.Record.{Record}
use Rattle.units.specs.Meaning.{UnitModel}
use Rattle.units.specs.Calls.{Keeps}
use Rattle.law.specs.declared.state.Core.{Core}
use Rattle.law.specs.declared.state.Running.{Running}
use Rattle.law.specs.declared.state.Stopped.{Stopped}
use Rattle.law.specs.Calls.{RunCall, done, spent, idle, retires}
use Rattle.law.specs.Pasts.{Event, issue, dispatch, complete, retire, cycle, run, raise, drop, EventCall, Past, started, called}
use Rattle.law.specs.Laws.{Fed, reports, steps_of, feed, fed, Truthful, AllTruthful, wait, cycle_calls, reported, RunKept, AllRunsKept, at_start, LawOfEveryPast}
use Rattle.law.proofs.Tied.{Tied}
use Rattle.law.proofs.Starting.{start_ties}
use Rattle.law.proofs.Rank.{done as ready, held, waiting, empty, within_one, within-wait}
use Rattle.law.proofs.Kept.{Holds, Soon, seen, seen_core, Retired, Cycled, issue-holds, issue-soon, dispatch-holds, dispatch-soon, loosen, complete-holds, complete-soon, retire-holds, cycle-holds, line_holds, line_soon}

module _ {A : Type 0} (m : UnitModel A) (keeps : Keeps m) (served : Class → Bool) (stay : ℕ) where
  -- runs -----------------------------------------------------------------------------------------

  -- a run makes as many steps of the machine as it reports retirements
  run_holds : (w b c r : ℕ) (k k' : Running A) → Holds m keeps served stay k → RunCall m w b c r k k'
      → Holds m keeps served stay k' × (seen k' ≡ steps_of served r (seen k))
  run_holds w b c r k k' h done = (h, refl)
  run_holds w b c r k k' h spent = (h, refl)
  run_holds w b c r k k' h (idle {wanted} {budget} {cycles} {l} now rest) =
      let one = cycle-holds m keeps served stay k l None h now in
      let more = run_holds (suc wanted) budget cycles r l k' one.0 rest in
      (more.0, more.1 ∙ ap (steps_of served r) one.1)
  run_holds w b c r k k' h (retires {wanted} {budget} {cycles} {retirements} {l} rec now rest) =
      let one = cycle-holds m keeps served stay k l (Some rec) h now in
      let more = run_holds wanted budget cycles retirements l k' one.0 rest in
      (more.0, more.1 ∙ ap (steps_of served retirements) one.2)

  -- a run for nothing makes nothing
  run_none : (b c r : ℕ) (k k' : Running A) → RunCall m 0 b c r k k' → (r ≡ 0) × (c ≡ 0)
  run_none b c r k k' done = (refl, refl)
  run_none b c r k k' spent = (refl, refl)

  -- with a first wait of at most n calls and a longest wait for each later retirement, all that are wanted are made
  run_makes : (w n b c r : ℕ) (k k' : Running A) → Holds m keeps served stay k → Soon m keeps served stay 1 3 k n
      → RunCall m (suc w) b c r k k' → n + w * wait stay ≤ b → (r ≡ suc w) × (c ≤ n + w * wait stay)
  run_makes w n b c r k k' h soon spent le =
      absurd (omega (arith, le, within_one m stay 1 3 k.core k.unit n (omega arith) soon))
  run_makes w zero b c r k k' h soon (idle now rest) le =
      absurd (omega (arith, within_one m stay 1 3 k.core k.unit 0 (omega arith) soon))
  run_makes w (suc n) b c r k k' h soon (idle {budget} {cycles} {l} now rest) le =
      let one = cycle-holds m keeps served stay k l None h now in
      let more = run_makes w n budget cycles r l k' one.0 (one.2 n soon) rest (omega (arith, le)) in
      (more.0, omega (arith, more.1))
  run_makes zero n b c r k k' h soon (retires {budget} {cycles} {retirements} {l} rec now rest) le =
      let none = run_none budget cycles retirements l k' rest in
      (ap suc none.0, omega (arith, none.1, within_one m stay 1 3 k.core k.unit n (omega arith) soon))
  run_makes (suc w) n b c r k k' h soon (retires {budget} {cycles} {retirements} {l} rec now rest) le =
      let one = cycle-holds m keeps served stay k l (Some rec) h now in
      let first : 1 ≤ n = within_one m stay 1 3 k.core k.unit n (omega arith) soon in
      let each : suc w * wait stay ≡ w * wait stay + wait stay = suc-mul w (wait stay) in
      let more = run_makes w (wait stay) budget cycles retirements l k' one.0
      (within-wait m keeps served stay l.core l.unit one.0) rest (omega (arith, le, first, each)) in
      (ap suc more.0, omega (arith, more.1, first, each))

  run_kept : (w b c r : ℕ) (k k' : Running A) → Holds m keeps served stay k → RunCall m w b c r k k'
      → w * wait stay ≤ b → (r ≡ w) × (c ≤ w * wait stay)
  run_kept zero b c r k k' h call le =
      let none = run_none b c r k k' call in
      (none.0, omega (arith, none.1))
  run_kept (suc w) b c r k k' h call le =
      let each : suc w * wait stay ≡ w * wait stay + wait stay = suc-mul w (wait stay) in
      let made = run_makes w (wait stay) b c r k k' h (within-wait m keeps served stay k.core k.unit h) call (omega (arith, le, each)) in
      (made.0, omega (arith, made.1, each))

  -- a run that retires nothing brings no retirement farther away
  later : (n p : ℕ) (k : Running A) → n ≤ p → Soon m keeps served stay 1 3 k n → Soon m keeps served stay 1 3 k p
  later n p k up (ready j some at le) = ready j some at (omega (arith, up, le))
  later n p k up (held i some at le) = held i some at (omega (arith, up, le))
  later n p k up (waiting longest some at l dues le) = waiting longest some at l dues (omega (arith, up, le))
  later n p k up (empty none le) = empty none (omega (arith, up, le))

  run_soon : (w b c r n : ℕ) (k k' : Running A) → Holds m keeps served stay k → RunCall m w b c r k k' → r ≡ 0
      → Soon m keeps served stay 1 3 k n → Soon m keeps served stay 1 3 k' n
  run_soon w b c r n k k' h done none soon = soon
  run_soon w b c r n k k' h spent none soon = soon
  run_soon w b c r zero k k' h (idle now rest) none soon =
      absurd (omega (arith, within_one m stay 1 3 k.core k.unit 0 (omega arith) soon))
  run_soon w b c r (suc n) k k' h (idle {wanted} {budget} {cycles} {l} now rest) none soon =
      let one = cycle-holds m keeps served stay k l None h now in
      later n (suc n) k' (omega arith) (run_soon (suc wanted) budget cycles r n l k' one.0 rest none (one.2 n soon))
  run_soon w b c r n k k' h (retires rec now rest) none soon = absurd (omega (arith, none))

module _ {A : Type 0} (m : UnitModel A) (keeps : Keeps m) (served : Class → Bool) (stay : ℕ) where
  -- one call -------------------------------------------------------------------------------------

  -- the rank has fallen by so many cycle calls without a retirement
  abbrev pub Fallen : ℕ → Running A → Type 0
  Fallen calls k = (n : ℕ) × Soon m keeps served stay 1 3 k n × (n + calls ≤ wait stay)

  -- what the law takes from one call, by its event
  pub record Lawful (e : Event) (k k' : Running A) : Type 0 where
    pub tied : Holds m keeps served stay k'
    -- the call does to the core what its event does to the machine
    pub same_state : seen k' ≡ feed served e (seen k)
    pub truthful : Truthful served (seen k) e
    pub run_kept : RunKept stay e
    pub falls : (es : List Event) → reports e ≡ 0 → Fallen (cycle_calls es) k → Fallen (cycle_calls (e ∷ es)) k'

  retire-lawful : (a : Result Record RetireFault) (k k' : Running A) → Holds m keeps served stay k
      → Retired m keeps served stay k a k' → Lawful (retire a) k k'
  retire-lawful (Ok r) k k' h did = record {
    tied = did.0;
    same_state = did.2;
    truthful = did.1;
    run_kept = tt;
    falls = λ es none f. absurd (omega (arith, none));
  }
  retire-lawful (Err e) k k' h did = record {
    tied = subst (Holds m keeps served stay) (sym did.0) h;
    same_state = ap seen did.0;
    truthful = tt;
    run_kept = tt;
    falls = λ es none f. subst (Fallen (cycle_calls es)) (sym did.0) f;
  }

  cycle-falls : (calls : ℕ) (k k' : Running A) → Cycled m keeps served stay k None k' → Fallen calls k → Fallen (calls + 1) k'
  cycle-falls calls k k' did (zero, soon, le) = absurd (omega (arith, within_one m stay 1 3 k.core k.unit 0 (omega arith) soon))
  cycle-falls calls k k' did (suc n, soon, le) = (n, did.2 n soon, omega (arith, le))

  cycle-lawful : (a : Option Record) (k k' : Running A) → Cycled m keeps served stay k a k' → Lawful (cycle a) k k'
  cycle-lawful (Some r) k k' did = record {
    tied = did.0;
    same_state = did.2;
    truthful = did.1;
    run_kept = tt;
    falls = λ es none f. absurd (omega (arith, none));
  }
  cycle-lawful None k k' did = record {
    tied = did.0;
    same_state = did.1;
    truthful = tt;
    run_kept = tt;
    falls = λ es none f. cycle-falls (cycle_calls es) k k' did f;
  }

  lawful : (e : Event) (k k' : Running A) → Holds m keeps served stay k → EventCall m e k k' → Lawful e k k'
  lawful (issue a) k k' h call =
      let did = issue-holds m keeps served stay k k' a h call in
      record {
        tied = did.0;
        same_state = did.1;
        truthful = tt;
        run_kept = tt;
        falls = λ es none f. (f.0, issue-soon m keeps served stay k k' a 3 f.0 h call (omega arith) f.1, f.2);
      }
  lawful (dispatch a) k k' h call =
      let did = dispatch-holds m keeps served stay k k' a h call in
      record {
        tied = did.0;
        same_state = did.1;
        truthful = tt;
        run_kept = tt;
        falls = λ es none f.
            (f.0, dispatch-soon m keeps served stay k k' a 3 f.0 h call (loosen m keeps served stay 3 f.0 k f.1), f.2);
      }
  lawful (complete a) k k' h call =
      let did = complete-holds m keeps served stay k k' a h call in
      record {
        tied = did.0;
        same_state = did.1;
        truthful = tt;
        run_kept = tt;
        falls = λ es none f. (f.0, complete-soon m keeps served stay k k' a f.0 h call f.1, f.2);
      }
  lawful (retire a) k k' h call = retire-lawful a k k' h (retire-holds m keeps served stay k k' a h call)
  lawful (cycle a) k k' h call = cycle-lawful a k k' (cycle-holds m keeps served stay k k' a h call)
  lawful (run wanted budget cycles retirements) k k' h call =
      let did = run_holds m keeps served stay wanted budget cycles retirements k k' h call in
      record {
        tied = did.0;
        same_state = did.1;
        truthful = tt;
        run_kept = run_kept m keeps served stay wanted budget cycles retirements k k' h call;
        falls = λ es none f.
            (f.0, run_soon m keeps served stay wanted budget cycles retirements f.0 k k' h call none f.1, f.2);
      }
  lawful raise k k' h call =
      let did = line_holds m keeps served stay k k' true h call in
      record {
        tied = did.0;
        same_state = did.1;
        truthful = tt;
        run_kept = tt;
        falls = λ es none f. (f.0, line_soon m keeps served stay k k' true f.0 call f.1, f.2);
      }
  lawful drop k k' h call =
      let did = line_holds m keeps served stay k k' false h call in
      record {
        tied = did.0;
        same_state = did.1;
        truthful = tt;
        run_kept = tt;
        falls = λ es none f. (f.0, line_soon m keeps served stay k k' false f.0 call f.1, f.2);
      }

module _ {A : Type 0} (m : UnitModel A) (keeps : Keeps m) (s : Stopped A) where
  -- the classes and the longest stay are those at start
  abbrev served : Class → Bool
  served = m.serves s.unit

  abbrev stay : ℕ
  stay = m.stay s.unit

  -- after every past -----------------------------------------------------------------------------

  record After (es : List Event) (now : Running A) : Type 0 where
    pub tied : Holds m keeps served stay now
    pub same_state : seen now ≡ fed served (at_start m s) es
    pub same_records : AllTruthful served (at_start m s) es
    pub runs_kept : AllRunsKept stay es

  after : (es : List Event) (now : Running A) → Past m s es now → After es now
  after es now (started sized call) = record {
    tied = subst (λ (c : Core). Tied m served stay c now.unit) (sym call.core) (start_ties m keeps s now.unit sized call.unit);
    same_state = ap seen_core call.core;
    same_records = tt;
    runs_kept = tt;
  }
  after fs now (called {e} {es} {k} past call) =
      let before = after es k past in
      let one = lawful m keeps served stay e k now before.tied call in
      record {
        tied = one.tied;
        same_state = one.same_state ∙ ap (feed served e) before.same_state;
        same_records = (subst (λ (f : Fed). Truthful served f e) before.same_state one.truthful, before.same_records);
        runs_kept = (one.run_kept, before.runs_kept);
      }

  -- progress -------------------------------------------------------------------------------------

  -- every past has the pasts before its later calls
  before : (later es : List Event) (now : Running A) → Past m s (later ++ es) now → (k : Running A) × Past m s es k
  before [] es now past = (now, past)
  before (e ∷ later) es now (called {k} past call) = before later es k past

  -- after a stretch without a retirement the rank has fallen by its cycle calls
  stretch_fallen : (stretch earlier : List Event) (now : Running A) → Past m s (stretch ++ earlier) now → reported stretch ≡ 0
      → Fallen m keeps served stay (cycle_calls stretch) now
  stretch_fallen [] earlier now past none =
      (wait stay, within-wait m keeps served stay now.core now.unit (after earlier now past).tied, omega arith)
  stretch_fallen (e ∷ stretch) earlier now (called {k} past call) none =
      let tied = (after (stretch ++ earlier) k past).tied in
      (lawful m keeps served stay e k now tied call).falls stretch (omega (arith, none))
      (stretch_fallen stretch earlier k past (omega (arith, none)))

  progress : (stretch earlier : List Event) (now : Running A) → Past m s (stretch ++ earlier) now
      → wait stay ≤ cycle_calls stretch → 0 < reported stretch
  progress stretch earlier now past long = by (reported stretch) refl
    where
      by : (n : ℕ) → reported stretch ≡ n → 0 < n
      by (suc n) is = omega arith
      by zero is =
          let f = stretch_fallen stretch earlier now past is in
          absurd (omega (arith, long, f.2, within_one m stay 1 3 now.core now.unit f.0 (omega arith) f.1))

-- the law -----------------------------------------------------------------------------------------

pub law_of_every_past_lem : {A : Type 0} (m : UnitModel A) → Keeps m → LawOfEveryPast m
law_of_every_past_lem m keeps s es k past =
    let now = after m keeps s es k past in
    record {
      same_state = now.same_state;
      same_records = now.same_records;
      progress = λ later stretch earlier is long.
          let then = before m keeps s later (stretch ++ earlier) k (subst (λ (fs : List Event). Past m s fs k) is past) in
          progress m keeps s stretch earlier then.0 then.1 long;
      runs = now.runs_kept;
    }
