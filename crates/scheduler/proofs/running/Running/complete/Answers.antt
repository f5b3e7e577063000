-- The outcome extends every past.
use Rattle.law.specs.Pasts.{complete}
use Rattle.law.proofs.Extends.{call-extends}
use Rattle.scheduler.proofs.running.Running.complete.Goals as goal

pub returns-clause-past : goal.returns-clause-past
returns-clause-past g c =
    call-extends g.U.Unit.means g.met.U.Unit.laws (complete c.complete.result) c.args.self.now.state c.complete.new.running c.complete.ensures
