use Rattle.prolly_range.proofs.OneSetFault.{set_faults_are_one}
use Rattle.prolly_range.proofs.laws.set_faults_are_one.Goals as goal

pub returns : goal.returns
returns c = set_faults_are_one
