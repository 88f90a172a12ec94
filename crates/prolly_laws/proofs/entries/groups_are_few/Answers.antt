use Rattle.prolly_laws.specs.Splits.{few_groups}
use Rattle.prolly_laws.proofs.entries.groups_are_few.Goals as goal

pub returns : goal.returns
returns g c = few_groups
