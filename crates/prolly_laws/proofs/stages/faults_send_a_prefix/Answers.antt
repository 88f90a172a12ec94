use Rattle.prolly_laws.specs.Stages.{fault_is_prefix}
use Rattle.prolly_laws.proofs.stages.faults_send_a_prefix.Goals as goal

pub returns : goal.returns
returns c = fault_is_prefix
