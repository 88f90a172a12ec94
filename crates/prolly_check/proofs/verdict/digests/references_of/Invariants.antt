use Rattle.std.proofs.Common.{◌≡◌, map, take}
use Rattle.prolly_check.specs.declared.verdict.digests.ChunkDigest.{ChunkDigest}
use Rattle.prolly_check.proofs.verdict.digests.references_of.Given as goal

abbrev pub invariant-loop-digest : goal.invariant-loop-digest
invariant-loop-digest l = l.references.items ≡
    map (λ (digest : ChunkDigest). digest.reference) (take l.digest-index l.digests)
