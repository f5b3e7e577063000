-- The outcome extends every past.
use Rattle.law.specs.Pasts.{run}
use Rattle.law.proofs.Extends.{call-extends}
use Rattle.scheduler.proofs.running.Running.run.Goals as goal

pub returns-clause-past : goal.returns-clause-past
returns-clause-past g c =
    call-extends g.U.Unit.means g.met.U.Unit.laws (run c.args.wanted c.args.budget c.run.result.cycles c.run.result.retirements) c.args.self.now.state c.run.new.running c.run.ensures
