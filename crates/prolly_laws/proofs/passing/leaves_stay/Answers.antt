use Rattle.prolly_laws.specs.Passing.{leaf_stays}
use Rattle.prolly_laws.proofs.passing.leaves_stay.Goals as goal

pub returns : goal.returns
returns c = leaf_stays
