use Rattle.std.proofs.Common.{◌≡◌, ◌++◌, drop, map, take}
use Rattle.prolly_sort.specs.Place.{ranked_behind}
use Rattle.prolly_sort.proofs.rank.rank_places.Given as goal

abbrev pub invariant-loop-place : goal.invariant-loop-place
invariant-loop-place l = l.places ≡
    map (ranked_behind l.skipped l.bytes) (take l.place-index l.initial.places) ++
    drop l.place-index l.initial.places
