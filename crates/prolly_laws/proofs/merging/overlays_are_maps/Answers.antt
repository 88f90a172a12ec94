use Rattle.prolly_entry.specs.lemmas.Overlays.{overlay_rises}
use Rattle.prolly_laws.proofs.merging.overlays_are_maps.Goals as goal

pub returns : goal.returns
returns c = overlay_rises
