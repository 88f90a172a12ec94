use Rattle.std.proofs.Common.{arith}
use Rattle.std.proofs.lemmas.Grind.{common_steps}
use Rattle.prolly_text.specs.FaultyLines.{place_text}
use Rattle.prolly_text.proofs.lines.explain.append_place.Goals as goal

pub returns : goal.returns
unfolding place_text
returns c = grind (arith, common_steps)
