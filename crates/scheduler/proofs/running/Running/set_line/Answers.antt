-- The outcome extends every past.
use Rattle.law.proofs.Extends.{line-extends}
use Rattle.scheduler.proofs.running.Running.set_line.Goals as goal

pub returns-clause-past : goal.returns-clause-past
returns-clause-past g c =
    line-extends g.U.Unit.means g.met.U.Unit.laws c.args.up c.args.self.now.state c.set_line.new.running c.set_line.ensures
