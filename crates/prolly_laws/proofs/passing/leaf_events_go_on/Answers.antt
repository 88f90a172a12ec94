use Rattle.prolly_laws.specs.Passing.{leaf_events_go_on}
use Rattle.prolly_laws.proofs.passing.leaf_events_go_on.Goals as goal

pub returns : goal.returns
returns c = leaf_events_go_on
