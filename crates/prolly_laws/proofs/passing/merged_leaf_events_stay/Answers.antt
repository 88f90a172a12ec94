use Rattle.prolly_laws.specs.Passing.{leaf_event_stays_merged}
use Rattle.prolly_laws.proofs.passing.merged_leaf_events_stay.Goals as goal

pub returns : goal.returns
returns g c = leaf_event_stays_merged _
