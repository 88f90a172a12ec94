use Rattle.prolly_tree.proofs.merging.Differences.{applied_twice}
use Rattle.prolly_laws.proofs.applying.changes_apply_together.Goals as goal

pub returns : goal.returns
returns c = applied_twice
