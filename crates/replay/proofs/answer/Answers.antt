use Rattle.std.proofs.Common.{◌≡◌, sym, subst}
use Rattle.law.specs.Pasts.{Event, issue, dispatch, complete, retire, cycle, run, raise, drop}
use Rattle.past.specs.declared.answers.Answer.{Answer}
use Rattle.past.specs.declared.calls.Call.{Call}
use Rattle.replay.specs.Told.{Told, issued, dispatched, completed, retired, cycled, ran, raised, dropped}
use Rattle.replay.proofs.answer.Goals as goal

told_of : (k k' : Call) (a : Answer) (e : Event) → k ≡ k' → Told k' a e → Told k a e
told_of k k' a e is t = subst (λ x. Told x a e) (sym is) t

pub returns-in-Issue : goal.returns-in-Issue
returns-in-Issue g c =
    (issue c.issue.result, (told_of _ _ _ _ c.in-Issue.is (issued c.issue.result), c.issue.ensures.past))

pub returns-in-Dispatch : goal.returns-in-Dispatch
returns-in-Dispatch g c =
    (dispatch c.dispatch.result, (told_of _ _ _ _ c.in-Dispatch.is (dispatched c.dispatch.result), c.dispatch.ensures.past))

pub returns-in-Complete : goal.returns-in-Complete
returns-in-Complete g c =
    (complete c.complete.result, (told_of _ _ _ _ c.in-Complete.is (completed c.complete.result), c.complete.ensures.past))

pub returns-in-Retire : goal.returns-in-Retire
returns-in-Retire g c =
    (retire c.retire.result, (told_of _ _ _ _ c.in-Retire.is (retired c.retire.result), c.retire.ensures.past))

pub returns-in-Cycle : goal.returns-in-Cycle
returns-in-Cycle g c =
    (cycle c.cycle.result, (told_of _ _ _ _ c.in-Cycle.is (cycled c.cycle.result), c.cycle.ensures.past))

pub returns-in-Run : goal.returns-in-Run
returns-in-Run g c =
    (run c.in-Run.wanted c.in-Run.budget c.run-ran.result.cycles c.run-ran.result.retirements, (told_of _ _ _ _ c.in-Run.is (ran c.in-Run.wanted c.in-Run.budget c.run-ran.result.cycles c.run-ran.result.retirements), c.run-ran.ensures.past))

pub returns-in-Raise : goal.returns-in-Raise
returns-in-Raise g c =
    (raise, (told_of _ _ _ _ c.in-Raise.is raised, c.raise_line.ensures.past))

pub returns-in-Drop : goal.returns-in-Drop
returns-in-Drop g c =
    (drop, (told_of _ _ _ _ c.in-Drop.is dropped, c.drop_line.ensures.past))
