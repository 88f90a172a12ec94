use Rattle.prolly_laws.specs.Splits.{split_step}
use Rattle.prolly_laws.proofs.entries.splits_go_on.Goals as goal

pub returns : goal.returns
returns g c = split_step
