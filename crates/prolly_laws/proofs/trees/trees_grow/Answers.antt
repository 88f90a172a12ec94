use Rattle.prolly_laws.specs.Trees.{grow_is}
use Rattle.prolly_laws.proofs.trees.trees_grow.Goals as goal

pub returns : goal.returns
returns c = grow_is
