use Rattle.prolly_tree.proofs.merging.Differences.{none_applied}
use Rattle.prolly_laws.proofs.applying.no_changes_leave_the_map.Goals as goal

pub returns : goal.returns
returns c = none_applied
