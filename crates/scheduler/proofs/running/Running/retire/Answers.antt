-- The outcome extends every past.
use Rattle.law.specs.Pasts.{retire}
use Rattle.law.proofs.Extends.{call-extends}
use Rattle.scheduler.proofs.running.Running.retire.Goals as goal

pub returns-clause-past : goal.returns-clause-past
returns-clause-past g c =
    call-extends g.U.Unit.means g.met.U.Unit.laws (retire c.retire.result) c.args.self.now.state c.retire.new.running c.retire.ensures
