use Rattle.std.proofs.Common.{◌-◌}
use Rattle.scheduler.proofs.Runs.{SoFar}
use Rattle.scheduler.proofs.calls.run.Given as goal

abbrev pub invariant-loop-retirements : goal.invariant-loop-retirements
invariant-loop-retirements g l =
    SoFar g.U.Unit.means l.wanted l.budget l.cycles l.retirements l.initial.running l.running

-- the budget is spent cycle by cycle
abbrev pub decreases-loop-retirements : goal.decreases-loop-retirements
decreases-loop-retirements g l = l.budget - l.cycles
