use Rattle.prolly_laws.proofs.Computed.{fault_of_least_position, removals}
use Rattle.prolly_laws.proofs.examples.lists_merge_so.Goals as goal

pub returns : goal.returns
returns c = record { fault = fault_of_least_position; removals = removals }
