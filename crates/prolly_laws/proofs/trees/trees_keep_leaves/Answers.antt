use Rattle.prolly_laws.specs.Trees.{leaves_are}
use Rattle.prolly_laws.proofs.trees.trees_keep_leaves.Goals as goal

pub returns : goal.returns
returns c = leaves_are
