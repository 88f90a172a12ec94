use Rattle.prolly_laws.specs.Merging.{merge_joined}
use Rattle.prolly_laws.proofs.merging.neighbours_merge_first.Goals as goal

pub returns : goal.returns
returns g c = merge_joined
