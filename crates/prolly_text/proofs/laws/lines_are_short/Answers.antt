use Rattle.prolly_text.proofs.LineLengths.{lines_are_short}
use Rattle.prolly_text.proofs.laws.lines_are_short.Goals as goal

pub returns : goal.returns
returns c = lines_are_short
