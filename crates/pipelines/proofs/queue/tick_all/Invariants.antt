use Rattle.std.proofs.Common.{◌≡◌, ◌++◌, map, take, drop}
use Rattle.pipelines.specs.Queues.{ticked}
use Rattle.pipelines.proofs.queue.tick_all.Given as goal

-- those before the index are a step on
abbrev pub invariant-loop-timed : goal.invariant-loop-timed
invariant-loop-timed l =
    let old = l.initial.jobs in
    l.jobs ≡ map (ticked l.latency) (take l.timed-index old) ++ drop l.timed-index old
