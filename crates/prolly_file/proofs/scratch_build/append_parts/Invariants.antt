use Rattle.std.proofs.Common.{◌≡◌, ◌++◌, take}
use Rattle.std.specs.List.{flat_map}
use Rattle.prolly_tree.specs.File.{frame}
use Rattle.prolly_file.proofs.scratch_build.append_parts.Given as goal

abbrev pub invariant-loop-chunk : goal.invariant-loop-chunk
invariant-loop-chunk l = l.out.items ≡ l.fn.out.items ++
    (l.fn.header ++ flat_map frame (take l.chunk-index l.chunks))
