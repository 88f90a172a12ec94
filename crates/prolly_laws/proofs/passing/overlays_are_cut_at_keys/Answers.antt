use Rattle.prolly_laws.specs.Passing.{overlay_at_key}
use Rattle.prolly_laws.proofs.passing.overlays_are_cut_at_keys.Goals as goal

pub returns : goal.returns
returns c = overlay_at_key
