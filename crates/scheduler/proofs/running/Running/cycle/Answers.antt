-- The outcome extends every past.
use Rattle.law.specs.Pasts.{cycle}
use Rattle.law.proofs.Extends.{call-extends}
use Rattle.scheduler.proofs.running.Running.cycle.Goals as goal

pub returns-clause-past : goal.returns-clause-past
returns-clause-past g c =
    call-extends g.U.Unit.means g.met.U.Unit.laws (cycle c.cycle.result) c.args.self.now.state c.cycle.new.running c.cycle.ensures
