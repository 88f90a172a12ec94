use Rattle.prolly_build.proofs.Beginnings.{no_end_is_begun}
use Rattle.prolly_build.proofs.laws.no_end_is_begun.Goals as goal

pub returns : goal.returns
returns c = no_end_is_begun
