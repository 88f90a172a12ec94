use Rattle.std.proofs.Common.{◌≡◌, take, true}
use Rattle.std.specs.List.{AllByRecursion}
use Rattle.prolly_check.specs.declared.verdict.digests.ChunkDigest.{ChunkDigest}
use Rattle.prolly_check.proofs.verdict.digests.whole_count.Given as goal

abbrev pub invariant-loop-number : goal.invariant-loop-number
invariant-loop-number l =
    AllByRecursion (λ (digest : ChunkDigest). digest.is_whole ≡ true) (take l.number l.told)
