use Rattle.prolly_laws.specs.Merging.{overlay_is_small}
use Rattle.prolly_laws.proofs.merging.overlays_are_small.Goals as goal

pub returns : goal.returns
returns c = overlay_is_small
