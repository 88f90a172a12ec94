use Rattle.std.proofs.Common.{ap, map, sym, ◌∙◌}
use Rattle.std.proofs.lemmas.List.{map_push, take_all, take_more}
use Rattle.prolly_check.specs.declared.verdict.digests.ChunkDigest.{ChunkDigest}
use Rattle.prolly_check.proofs.verdict.digests.references_of.Goals as goal

pub loop-digest-preserved : goal.loop-digest-preserved
loop-digest-preserved c =
    let digests = c.args.digests.now in
    let i = c.loop-digest.digest-index in
    rw c.loop-digest.invariant at c.in_ok-push.ensures.items ∙
    sym (ap (map (λ (digest : ChunkDigest). digest.reference))
    (take_more digests i _ c.loop-digest-test.true) ∙ map_push _ _ _)

pub returns : goal.returns
returns c = c.loop-digest.invariant ∙ ap (map (λ (digest : ChunkDigest). digest.reference))
    (take_all c.loop-digest.digest-index c.args.digests.now c.loop-digest-test.false)
