use Rattle.std.proofs.Common.{length}
use Rattle.std.specs.Option.{option_copied}
use Rattle.prolly_check.proofs.PairCounts.{LeafRead}
use Rattle.prolly_check.proofs.verdict.pairs_digest.PairsDigest.of_leaf.Given as goal

abbrev pub invariant-loop-key : goal.invariant-loop-key
invariant-loop-key l = LeafRead l.cut l.entries l.rest (option_copied l.last_key) l.digest

abbrev pub decreases-loop-key : goal.decreases-loop-key
decreases-loop-key l = length l.rest
