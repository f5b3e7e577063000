-- What the calls leave of the core without its unit, refused or not.
-- Assumes nothing.
use Rattle.std.specs.Prelude.{ℕ, Ok, Err, Result}
use Rattle.refusal.specs.declared.IssueFault.{IssueFault}
use Rattle.tables.specs.declared.stations.Stations.{Stations}
use Rattle.law.specs.declared.state.Core.{Core}
use Rattle.law.specs.Steps.{issue_answer, issued}

abbrev pub issue_leaves : Result ℕ IssueFault → Core → Core
issue_leaves (Ok t) k = issued k
issue_leaves (Err f) k = k

abbrev pub issue_state : Core → Core
issue_state k = issue_leaves (issue_answer k) k

abbrev pub with_stations : Stations → Core → Core
with_stations x k =
    record {
      machine = k.machine;
      line = k.line;
      served = k.served;
      fetch = k.fetch;
      buffer = k.buffer;
      stations = x;
      tags = k.tags;
    }
