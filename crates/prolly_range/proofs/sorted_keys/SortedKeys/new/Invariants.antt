use Rattle.std.proofs.Common.{map, take}
use Rattle.prolly_entry.specs.Keys.{Rising}
use Rattle.prolly_range.proofs.sorted_keys.SortedKeys.new.Given as goal

abbrev pub invariant-loop-place : goal.invariant-loop-place
invariant-loop-place l = Rising (map (λ k. k.items) (take l.place l.keys))
