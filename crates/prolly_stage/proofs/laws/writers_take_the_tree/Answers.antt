use Rattle.prolly_laws.specs.Stages.{composition}
use Rattle.prolly_stage.specs.lemmas.Takings.{writer_takes}
use Rattle.prolly_stage.proofs.laws.writers_take_the_tree.Goals as goal

pub returns : goal.returns
returns c = λ cut version m n few. writer_takes cut version m n (composition cut version m few n)
