use Rattle.prolly_laws.specs.Passing.{front_stays}
use Rattle.prolly_laws.proofs.passing.fronts_stay.Goals as goal

pub returns : goal.returns
returns c = front_stays
