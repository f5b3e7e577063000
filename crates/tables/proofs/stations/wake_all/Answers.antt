-- The lemma of a loop that writes over each element.
use Rattle.std.proofs.Common.{arith, get_or, None}
use Rattle.std.proofs.lemmas.List.{get_or_default}
use Rattle.std.proofs.lemmas.List.Edits.{map_over_more}
use Rattle.tables.specs.Waiting.{woken_place}
use Rattle.tables.proofs.stations.wake_all.Goals as goal

pub loop-place-preserved : goal.loop-place-preserved
loop-place-preserved c =
    let i = c.loop-place.place-index in
    let places = c.loop-place.places in
    let old = get_or places i None in
    rw c.wake_place.ensures
    (map_over_more (woken_place c.args.tag c.args.value) c.args.places.now places i old (omega arith) c.loop-place.invariant (get_or_default places i _ old (omega arith)))
