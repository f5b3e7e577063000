-- Each turn makes one more cycle; the loop ends with the retirements wanted, or with the budget spent.
use Rattle.std.proofs.Common.{ℕ, ◌+◌, sym, subst, arith}
use Rattle.scheduler.proofs.Runs.{SoFar, one_more, ends-done, ends-spent}
use Rattle.scheduler.proofs.calls.run.Goals as goal

pub loop-retirements-preserved : goal.loop-retirements-preserved
loop-retirements-preserved g c =
    let l = c.loop-retirements in
    let m = g.U.Unit.means in
    subst (λ (n : ℕ). SoFar m c.args.wanted c.args.budget (l.cycles + 1) (l.retirements + n) c.args.running.now c.cycle.new.running)
    (sym c.reported-retirements.ensures.count)
    (one_more m c.args.wanted c.args.budget l.cycles l.retirements c.args.running.now l.running c.cycle.new.running
    c.cycle.result l.invariant (omega arith) (omega arith) c.cycle.ensures)

pub returns-else-cycles-budget : goal.returns-else-cycles-budget
returns-else-cycles-budget g c =
    let l = c.loop-retirements in
    ends-spent g.U.Unit.means c.args.wanted c.args.budget l.cycles l.retirements c.args.running.now l.running l.invariant (omega arith)

pub returns-after-loop-retirements : goal.returns-after-loop-retirements
returns-after-loop-retirements g c =
    let l = c.loop-retirements in
    ends-done g.U.Unit.means c.args.wanted c.args.budget l.cycles l.retirements c.args.running.now l.running l.invariant (omega arith)
