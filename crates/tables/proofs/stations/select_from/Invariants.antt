use Rattle.std.proofs.Common.{◌≡◌, drop}
use Rattle.machine.specs.Classes.{serves}
use Rattle.tables.specs.Waiting.{goes}
use Rattle.tables.proofs.Places.{goes_after}
use Rattle.tables.proofs.stations.select_from.Given as goal

-- the choice is left to the places that are still to come
abbrev pub invariant-loop-place : goal.invariant-loop-place
invariant-loop-place l =
    goes_after (serves l.room) l.head l.oldest (drop l.place-index l.places) ≡ goes (serves l.room) l.head l.places
