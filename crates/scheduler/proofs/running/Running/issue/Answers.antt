-- The outcome extends every past.
use Rattle.law.specs.Pasts.{issue}
use Rattle.law.proofs.Extends.{call-extends}
use Rattle.scheduler.proofs.running.Running.issue.Goals as goal

pub returns-clause-past : goal.returns-clause-past
returns-clause-past g c =
    call-extends g.U.Unit.means g.met.U.Unit.laws (issue c.issue.result) c.args.self.now.state c.issue.new.running c.issue.ensures
