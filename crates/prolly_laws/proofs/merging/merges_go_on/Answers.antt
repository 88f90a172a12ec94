use Rattle.prolly_laws.specs.Merging.{merged_step}
use Rattle.prolly_laws.proofs.merging.merges_go_on.Goals as goal

pub returns : goal.returns
returns g c = merged_step
