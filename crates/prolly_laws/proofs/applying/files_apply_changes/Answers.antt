use Rattle.prolly_tree.proofs.merging.Differences.{files_apply}
use Rattle.prolly_laws.proofs.applying.files_apply_changes.Goals as goal

pub returns : goal.returns
returns c = files_apply
