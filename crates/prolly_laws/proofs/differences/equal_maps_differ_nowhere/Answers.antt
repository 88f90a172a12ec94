use Rattle.prolly_tree.proofs.merging.Differences.{equals_differ_nowhere}
use Rattle.prolly_laws.proofs.differences.equal_maps_differ_nowhere.Goals as goal

pub returns : goal.returns
returns c = equals_differ_nowhere
