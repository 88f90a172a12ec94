use Rattle.prolly_stage.specs.lemmas.Joins.{join_workers}
use Rattle.prolly_stage.proofs.laws.workers_join.Goals as goal

pub returns : goal.returns
returns g c = λ first second. join_workers first second
