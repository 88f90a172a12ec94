use Rattle.prolly_laws.specs.Trees.{begun_is_prefix}
use Rattle.prolly_laws.proofs.trees.begun_files_are_prefixes.Goals as goal

pub returns : goal.returns
returns c = begun_is_prefix
