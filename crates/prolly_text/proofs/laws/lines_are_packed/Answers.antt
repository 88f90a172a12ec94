use Rattle.prolly_text.proofs.WrittenLines.{lines_are_packed}
use Rattle.prolly_text.proofs.laws.lines_are_packed.Goals as goal

pub returns : goal.returns
returns c = lines_are_packed
