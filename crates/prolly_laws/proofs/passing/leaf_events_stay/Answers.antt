use Rattle.prolly_laws.specs.Passing.{leaf_event_stays}
use Rattle.prolly_laws.proofs.passing.leaf_events_stay.Goals as goal

pub returns : goal.returns
returns c = leaf_event_stays
