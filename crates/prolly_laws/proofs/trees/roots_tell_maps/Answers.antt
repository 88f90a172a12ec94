use Rattle.prolly_laws.specs.Trees.{roots_tell}
use Rattle.prolly_laws.proofs.trees.roots_tell_maps.Goals as goal

pub returns : goal.returns
returns c = roots_tell
