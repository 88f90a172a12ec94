use Rattle.prolly_tree.specs.lemmas.Differences.{says_no_equal}
use Rattle.prolly_laws.proofs.differences.differences_say_no_equal.Goals as goal

pub returns : goal.returns
returns c = says_no_equal
