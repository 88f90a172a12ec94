use Rattle.prolly_laws.specs.Trees.{pairs_are}
use Rattle.prolly_laws.proofs.trees.trees_keep_pairs.Goals as goal

pub returns : goal.returns
returns c = pairs_are
