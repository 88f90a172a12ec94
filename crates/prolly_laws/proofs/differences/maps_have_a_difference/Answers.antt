use Rattle.prolly_tree.specs.lemmas.Differences.{some_difference}
use Rattle.prolly_laws.proofs.differences.maps_have_a_difference.Goals as goal

pub returns : goal.returns
returns c = some_difference
