-- Each arm spells its name, byte by byte.
use Rattle.std.proofs.Common.{codes, arith}
use Rattle.past.proofs.Fields.{spelled}
use Rattle.past.proofs.calls.call_named.Goals as goal

pub returns-in-issue : goal.returns-in-issue
returns-in-issue c = rw (spelled c.args.name.now (codes "issue") (omega arith) (omega arith, (omega arith, (omega arith, (omega arith, (omega arith, tt)))))) c.alone-in-issue.ensures

pub returns-in-dispatch : goal.returns-in-dispatch
returns-in-dispatch c = rw (spelled c.args.name.now (codes "dispatch") (omega arith) (omega arith, (omega arith, (omega arith, (omega arith, (omega arith, (omega arith, (omega arith, (omega arith, tt))))))))) c.alone-in-dispatch.ensures

pub returns-in-complete : goal.returns-in-complete
returns-in-complete c = rw (spelled c.args.name.now (codes "complete") (omega arith) (omega arith, (omega arith, (omega arith, (omega arith, (omega arith, (omega arith, (omega arith, (omega arith, tt))))))))) c.alone-in-complete.ensures

pub returns-in-retire : goal.returns-in-retire
returns-in-retire c = rw (spelled c.args.name.now (codes "retire") (omega arith) (omega arith, (omega arith, (omega arith, (omega arith, (omega arith, (omega arith, tt))))))) c.alone-in-retire.ensures

pub returns-in-cycle : goal.returns-in-cycle
returns-in-cycle c = rw (spelled c.args.name.now (codes "cycle") (omega arith) (omega arith, (omega arith, (omega arith, (omega arith, (omega arith, tt)))))) c.alone-in-cycle.ensures

pub returns-in-raise : goal.returns-in-raise
returns-in-raise c = rw (spelled c.args.name.now (codes "raise") (omega arith) (omega arith, (omega arith, (omega arith, (omega arith, (omega arith, tt)))))) c.alone-in-raise.ensures

pub returns-in-drop : goal.returns-in-drop
returns-in-drop c = rw (spelled c.args.name.now (codes "drop") (omega arith) (omega arith, (omega arith, (omega arith, (omega arith, tt))))) c.alone.ensures
