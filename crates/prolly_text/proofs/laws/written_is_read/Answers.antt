use Rattle.prolly_text.specs.lemmas.Notations.{written_is_read}
use Rattle.prolly_text.proofs.laws.written_is_read.Goals as goal

pub returns : goal.returns
returns c = written_is_read
