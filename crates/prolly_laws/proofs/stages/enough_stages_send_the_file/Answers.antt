use Rattle.prolly_laws.specs.Stages.{enough_stages}
use Rattle.prolly_laws.proofs.stages.enough_stages_send_the_file.Goals as goal

pub returns : goal.returns
returns c = λ cut version m n few enough. enough_stages cut version m few n enough
