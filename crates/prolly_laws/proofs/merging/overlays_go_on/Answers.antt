use Rattle.prolly_entry.specs.lemmas.Overlays.{merge_step}
use Rattle.prolly_laws.proofs.merging.overlays_go_on.Goals as goal

pub returns : goal.returns
returns c = merge_step
