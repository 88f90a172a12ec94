use Rattle.prolly_stage.specs.lemmas.Joins.{stage_follows}
use Rattle.prolly_stage.proofs.laws.stages_follow.Goals as goal

pub returns : goal.returns
returns c = stage_follows
