use Rattle.prolly_text.specs.lemmas.Notations.{written_shows}
use Rattle.prolly_text.proofs.laws.written_shows.Goals as goal

pub returns : goal.returns
returns c = written_shows
