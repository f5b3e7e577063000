-- A past begins.
use Rattle.law.proofs.Extends.{start_begins}
use Rattle.scheduler.proofs.stopped.Stopped.start.Goals as goal

pub returns-clause-past : goal.returns-clause-past
returns-clause-past g c =
    start_begins g.U.Unit.means g.met.U.Unit.laws c.args.self.state c.begin.result.state c.begin.ensures.sized c.begin.ensures.outcome
