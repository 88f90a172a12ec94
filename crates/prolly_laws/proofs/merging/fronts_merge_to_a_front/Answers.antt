use Rattle.prolly_laws.specs.Merging.{fronts_merge}
use Rattle.prolly_laws.proofs.merging.fronts_merge_to_a_front.Goals as goal

pub returns : goal.returns
returns g c = fronts_merge _
