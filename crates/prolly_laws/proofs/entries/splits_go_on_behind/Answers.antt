use Rattle.prolly_laws.specs.Splits.{split_goes_on}
use Rattle.prolly_laws.proofs.entries.splits_go_on_behind.Goals as goal

pub returns : goal.returns
returns g c = split_goes_on
