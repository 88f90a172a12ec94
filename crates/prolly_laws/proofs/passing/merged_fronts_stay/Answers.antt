use Rattle.prolly_laws.specs.Passing.{front_stays_merged}
use Rattle.prolly_laws.proofs.passing.merged_fronts_stay.Goals as goal

pub returns : goal.returns
returns g c = front_stays_merged _
