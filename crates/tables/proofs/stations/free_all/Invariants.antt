use Rattle.std.proofs.Common.{◌≡◌, ◌++◌, map, take, drop}
use Rattle.tables.specs.Waiting.{freed_place}
use Rattle.tables.proofs.stations.free_all.Given as goal

-- those before the index are changed
abbrev pub invariant-loop-place : goal.invariant-loop-place
invariant-loop-place l =
    let old = l.initial.places in
    l.places ≡ map (freed_place l.tag) (take l.place-index old) ++ drop l.place-index old
