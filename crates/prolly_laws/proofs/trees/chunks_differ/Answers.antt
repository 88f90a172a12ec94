use Rattle.prolly_laws.specs.Trees.{chunks_differ}
use Rattle.prolly_laws.proofs.trees.chunks_differ.Goals as goal

pub returns : goal.returns
returns c = chunks_differ
