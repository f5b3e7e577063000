use Rattle.std.proofs.Common.{◌≡◌, map}
use Rattle.options.proofs.Stands.{newest_of}
use Rattle.options.proofs.schedule.line_stands.Given as goal

abbrev pub invariant-loop-event : goal.invariant-loop-event
invariant-loop-event l =
    (goal.iterator-loop-event).can_next l.event-iterator ×
    (goal.iterator-loop-event).is_finite l.event-iterator ×
    (newest_of (map (λ e. e.now) l.yielded) ≡ l.newest)
