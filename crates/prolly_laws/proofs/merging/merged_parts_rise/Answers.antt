use Rattle.prolly_laws.specs.Merging.{merged_part_rises}
use Rattle.prolly_laws.proofs.merging.merged_parts_rise.Goals as goal

pub returns : goal.returns
returns g c = merged_part_rises _
