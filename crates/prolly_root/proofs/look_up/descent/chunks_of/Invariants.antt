use Rattle.std.proofs.Common.{◌≡◌, map, take}
use Rattle.prolly_root.specs.Descent.{chunks_on_way}
use Rattle.prolly_root.proofs.look_up.descent.chunks_of.Given as goal

abbrev pub invariant-loop-level : goal.invariant-loop-level
invariant-loop-level g l =
    map (λ chunk. chunk.now) l.chunks.items ≡ chunks_on_way (take l.level-index l.levels)
