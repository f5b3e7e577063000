use Rattle.std.proofs.Common.{leb, rules, arith, sym, ap, ◌∙◌}
use Rattle.std.proofs.lemmas.Bool.Decides.{nat_tests}
use Rattle.std.proofs.lemmas.Iterator.{YieldsList-from_slice}
use Rattle.std.proofs.lemmas.Iterator.Consumers.{YieldsList-at, YieldsList-from_filter, YieldsList-end}
use Rattle.options.proofs.Stands.{newest_of, stands_by_newest}
use Rattle.options.proofs.schedule.line_stands.Goals as goal

-- the loop has seen just the events that have come
pub returns : goal.returns
returns c =
    let seen = YieldsList-end
    (YieldsList-at c.into_iter-event-iterator.ensures.into_iter_gives
    (YieldsList-from_filter _ (λ e. leb e.after c.args.retired) (YieldsList-from_slice c.args.events.now cc) c.filter-event-items.ensures.closure (λ x b q k. (search rules, grind (arith, nat_tests)))))
    c.loop-event.yielded _ c.loop-event.yielded_by _ _ c.in-None.is c.next.ensures.steps in
    let (_, _, newest) = c.loop-event.invariant in
    ap (λ e. e.up) (sym newest ∙ ap newest_of seen.0) ∙ stands_by_newest c.args.retired c.args.events.now
