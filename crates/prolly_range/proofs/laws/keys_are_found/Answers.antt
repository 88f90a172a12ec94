use Rattle.prolly_range.proofs.Finding.{keys_are_found}
use Rattle.prolly_range.proofs.laws.keys_are_found.Goals as goal

pub returns : goal.returns
returns c = keys_are_found
