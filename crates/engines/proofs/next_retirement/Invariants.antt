use Rattle.engines.proofs.SoFar.{SoFar}
use Rattle.engines.proofs.next_retirement.Given as goal

abbrev pub invariant-loop-advance : goal.invariant-loop-advance
invariant-loop-advance g l = SoFar (g.E.Engine.Advances l.line) l.most l._advance l.initial.engine l.engine
