use Rattle.prolly_laws.specs.Splits.{one_split}
use Rattle.prolly_laws.proofs.entries.lists_have_one_split.Goals as goal

pub returns : goal.returns
returns g c = one_split
