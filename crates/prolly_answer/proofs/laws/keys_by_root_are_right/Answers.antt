use Rattle.prolly_answer.proofs.KeySteps.{keys_right}
use Rattle.prolly_answer.proofs.laws.keys_by_root_are_right.Goals as goal

pub returns : goal.returns
returns c = keys_right c.ways_are_right.ensures.found
