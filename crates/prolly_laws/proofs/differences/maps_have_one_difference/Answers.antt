use Rattle.prolly_tree.proofs.merging.Differences.{one_difference}
use Rattle.prolly_laws.proofs.differences.maps_have_one_difference.Goals as goal

pub returns : goal.returns
returns c = one_difference
