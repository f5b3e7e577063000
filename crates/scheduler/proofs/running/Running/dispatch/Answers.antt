-- The outcome extends every past.
use Rattle.law.specs.Pasts.{dispatch}
use Rattle.law.proofs.Extends.{call-extends}
use Rattle.scheduler.proofs.running.Running.dispatch.Goals as goal

pub returns-clause-past : goal.returns-clause-past
returns-clause-past g c =
    call-extends g.U.Unit.means g.met.U.Unit.laws (dispatch c.dispatch.result) c.args.self.now.state c.dispatch.new.running c.dispatch.ensures
