use Rattle.prolly_tree.proofs.merging.Differences.{differences_compose}
use Rattle.prolly_laws.proofs.differences.differences_compose.Goals as goal

pub returns : goal.returns
returns c = differences_compose
