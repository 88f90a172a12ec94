use Rattle.std.proofs.Common.{◌≡◌, ◌-◌, ◌++◌, length, drop}
use Rattle.std.specs.List.{flat_map}
use Rattle.prolly_look_up.specs.Content.{chunks_of}
use Rattle.prolly_look_up.specs.HeldPairs.{pairs_held}
use Rattle.prolly_check.proofs.look_up.leaves.Leaves.next.Given as goal

abbrev pub invariant-loop-self : goal.invariant-loop-self
invariant-loop-self l = l.fn.self ≡ l.self-inside.first ++
    flat_map pairs_held (drop l.self-inside.number (chunks_of l.self-inside.file))

abbrev pub decreases-loop-self : goal.decreases-loop-self
decreases-loop-self l = length (chunks_of l.self-inside.file) - l.self-inside.number
