-- What a take does to the sides, it does to the join.
use Rattle.join.proofs.Calls.{take-joined}
use Rattle.join.proofs.JoinUnit.take.Goals as goal

pub returns-clause-taken : goal.returns-clause-taken
returns-clause-taken g c =
    (take-joined g.A.Unit.means g.B.Unit.means c.args.self.now c.args.job c.take_left_first.new.self c.take_left_first.ensures.sides).taken
