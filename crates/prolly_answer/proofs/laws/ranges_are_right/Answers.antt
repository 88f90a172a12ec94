use Rattle.prolly_answer.proofs.Ranges.{ranges_are_right}
use Rattle.prolly_answer.proofs.laws.ranges_are_right.Goals as goal

pub returns : goal.returns
returns c = ranges_are_right c.set_proofs_are_right.ensures.first
