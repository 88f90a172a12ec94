use Rattle.prolly_laws.specs.Trees.{few_chunks, few_levels}
use Rattle.prolly_laws.proofs.trees.trees_are_small.Goals as goal

pub returns : goal.returns
returns c = record { chunks = few_chunks; levels = few_levels }
