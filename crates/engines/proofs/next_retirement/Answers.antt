-- No advance so far answered a record; the first that does ends the loop.
use Rattle.std.proofs.Common.{sym, ◌∙◌, arith}
use Rattle.engines.proofs.SoFar.{begins, ends, goes_on, makes}
use Rattle.engines.proofs.next_retirement.Goals as goal

pub loop-advance-init : goal.loop-advance-init
loop-advance-init g c = begins (g.E.Engine.Advances c.args.line) c.args.most c.args.engine.now

pub returns-then-is_some-clause-advances : goal.returns-then-is_some-clause-advances
returns-then-is_some-clause-advances g c =
    let l = c.loop-advance in
    makes (g.E.Engine.Advances c.args.line) c.args.most l._advance c.args.engine.now l.engine c.advance-record.new.self l.invariant (omega arith)
    c.advance-record.result c.advance-record.ensures (sym c.is_some.ensures ∙ c.if-is_some.true)

pub returns-then-is_some-clause-retires : goal.returns-then-is_some-clause-retires
returns-then-is_some-clause-retires g c some =
    g.met.E.Engine.advances_retire c.args.most c.args.line c.args.engine.now c.advance-record.result c.advance-record.new.self some
    (returns-then-is_some-clause-advances g c)

pub loop-advance-preserved : goal.loop-advance-preserved
loop-advance-preserved g c =
    let l = c.loop-advance in
    goes_on (g.E.Engine.Advances c.args.line) c.args.most l._advance c.args.engine.now l.engine c.advance-record.new.self l.invariant (omega arith)
    c.advance-record.result c.advance-record.ensures (sym c.is_some.ensures ∙ c.if-is_some.false)

pub returns-clause-advances : goal.returns-clause-advances
returns-clause-advances g c =
    let l = c.loop-advance in
    ends (g.E.Engine.Advances c.args.line) c.args.most l._advance c.args.engine.now l.engine l.invariant (omega arith)

pub returns-clause-retires : goal.returns-clause-retires
returns-clause-retires g c some =
    g.met.E.Engine.advances_retire c.args.most c.args.line c.args.engine.now _ c.loop-advance.engine some (returns-clause-advances g c)
