use Rattle.prolly_laws.specs.Stages.{composition}
use Rattle.prolly_laws.proofs.stages.stages_make_the_tree.Goals as goal

pub returns : goal.returns
returns c = λ cut version m n few. composition cut version m few n
