use Rattle.prolly_laws.specs.Stages.{stage_step}
use Rattle.prolly_laws.proofs.stages.stages_go_on.Goals as goal

pub returns : goal.returns
returns c = λ is_boundary event_of below events e. stage_step below event_of is_boundary events e
