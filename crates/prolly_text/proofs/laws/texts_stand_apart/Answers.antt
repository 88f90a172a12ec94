use Rattle.prolly_text.specs.lemmas.Notations.{texts_stand_apart}
use Rattle.prolly_text.proofs.laws.texts_stand_apart.Goals as goal

pub returns : goal.returns
returns c = texts_stand_apart
