-- A unit's laws are all that the law over its runs rests on.
use Rattle.units.proofs.Waits.{offered-within-stay}
use Rattle.units.proofs.runs.offered_within_stay.Goals as goal

pub returns : goal.returns
returns g c = offered-within-stay g.U.Unit.means g.met.U.Unit.laws
