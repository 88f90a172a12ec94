use Rattle.prolly_laws.specs.Merging.{overlay_of_two}
use Rattle.prolly_laws.proofs.merging.neighbours_are_overlaid_first.Goals as goal

pub returns : goal.returns
returns c = overlay_of_two
