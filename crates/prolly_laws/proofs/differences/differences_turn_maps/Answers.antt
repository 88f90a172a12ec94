use Rattle.prolly_tree.proofs.merging.Differences.{difference_turns}
use Rattle.prolly_laws.proofs.differences.differences_turn_maps.Goals as goal

pub returns : goal.returns
returns c = difference_turns
