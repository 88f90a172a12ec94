use Rattle.prolly_entry.specs.lemmas.Overlays.{overlay_is}
use Rattle.prolly_laws.proofs.merging.lists_have_one_overlay.Goals as goal

pub returns : goal.returns
returns c = overlay_is
