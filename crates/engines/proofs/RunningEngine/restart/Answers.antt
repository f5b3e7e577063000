use Rattle.std.proofs.Common.{subst}
use Rattle.law.specs.Calls.{StartCall}
use Rattle.engines.proofs.RunningEngine.restart.Goals as goal

pub returns-clause-state : goal.returns-clause-state
returns-clause-state g c =
    record {
      stopped = c.stop-stopped.result.state;
      stops = c.stop-stopped.ensures;
      starts = subst (λ s. StartCall g.U.Unit.means s c.start.result.state) c.load.ensures.state c.start.ensures.outcome;
    }
