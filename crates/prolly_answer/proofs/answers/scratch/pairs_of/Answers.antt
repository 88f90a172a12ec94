use Rattle.prolly_answer.proofs.Rises.{pairs_rise}
use Rattle.prolly_answer.proofs.answers.scratch.pairs_of.Goals as goal

pub returns-in-Ok-clause-rising : goal.returns-in-Ok-clause-rising
returns-in-Ok-clause-rising g c = pairs_rise _ _ _ c.in-Ok.ensures.ok
