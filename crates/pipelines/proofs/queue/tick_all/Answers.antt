-- The lemma of a loop that writes over each element.
use Rattle.std.proofs.Common.{arith, get_or}
use Rattle.std.proofs.lemmas.List.{get_or_default}
use Rattle.std.proofs.lemmas.List.Edits.{map_over_more}
use Rattle.pipelines.specs.Queues.{fresh, ticked}
use Rattle.pipelines.proofs.queue.tick_all.Goals as goal

pub loop-timed-preserved : goal.loop-timed-preserved
loop-timed-preserved c =
    let i = c.loop-timed.timed-index in
    let jobs = c.loop-timed.jobs in
    let old = get_or jobs i (fresh (record { tag = 0; word = 0; pc = 0; a = 0; b = 0 })) in
    rw c.tick.ensures
    (map_over_more (ticked c.args.latency) c.args.jobs.now jobs i old (omega arith) c.loop-timed.invariant
    (get_or_default jobs i _ old (omega arith)))
