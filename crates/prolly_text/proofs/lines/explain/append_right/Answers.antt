use Rattle.std.proofs.Common.{arith}
use Rattle.std.proofs.lemmas.Grind.{common_steps}
use Rattle.prolly_text.specs.FaultyLines.{right_line}
use Rattle.prolly_text.proofs.lines.explain.append_right.Goals as goal

pub returns : goal.returns
unfolding right_line
returns c = grind (arith, common_steps)
