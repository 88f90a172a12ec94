use Rattle.prolly_laws.specs.Merging.{cut_behind_stop}
use Rattle.prolly_laws.proofs.merging.cut_inputs_keep_their_stop.Goals as goal

pub returns : goal.returns
returns g c = cut_behind_stop _
