use Rattle.prolly_text.specs.lemmas.Notations.{names_show}
use Rattle.prolly_text.proofs.laws.names_show.Goals as goal

pub returns : goal.returns
returns c = names_show
