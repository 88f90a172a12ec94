use Rattle.prolly_laws.specs.Trees.{file_decides}
use Rattle.prolly_laws.proofs.trees.files_decide_their_map.Goals as goal

pub returns : goal.returns
returns c = file_decides
