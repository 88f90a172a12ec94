use Rattle.prolly_text.specs.lemmas.Notations.{one_reading}
use Rattle.prolly_text.proofs.laws.one_reading.Goals as goal

pub returns : goal.returns
returns c = one_reading
