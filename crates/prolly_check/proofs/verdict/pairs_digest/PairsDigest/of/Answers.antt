use Rattle.std.proofs.Common.{ap, length, ◌∙◌}
use Rattle.prolly_entry.specs.lemmas.Lists.{rest_is}
use Rattle.prolly_check.proofs.PairCounts.{none_told}
use Rattle.prolly_check.proofs.verdict.pairs_digest.PairsDigest.of.Goals as goal

pub returns-clause-some : goal.returns-clause-some
returns-clause-some c = none_told c.args.cut c.args.version c.args.chunk.now c.of_none.result
    c.if-chunk-eq-LEAF.false
    (rw (rest_is c.args.chunk.now 1) at (c.is_node.ensures.node c.if-not-is_node.false))
    (c.of_none.ensures.pairs c.args.cut)
    (c.of_none.ensures.end ∙ ap length (rest_is c.args.chunk.now 1))
