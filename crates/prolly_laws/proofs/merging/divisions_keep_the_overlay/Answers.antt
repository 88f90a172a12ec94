use Rattle.prolly_entry.specs.lemmas.Overlays.{overlay_of_parts}
use Rattle.prolly_laws.proofs.merging.divisions_keep_the_overlay.Goals as goal

pub returns : goal.returns
returns c = overlay_of_parts
