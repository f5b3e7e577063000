-- A unit's laws are all that the law of every past rests on.
use Rattle.law.proofs.Law.{law_of_every_past_lem}
use Rattle.law.proofs.past.law_of_every_past.Goals as goal

pub returns : goal.returns
returns g c = law_of_every_past_lem g.U.Unit.means g.met.U.Unit.laws
