use Rattle.std.proofs.Common.{rules}
use Rattle.prolly_look_up.specs.lemmas.PairLists.{none_left}
use Rattle.prolly_root.proofs.look_up.chunk_on_way.ChunkOnWay.read.Goals as goal

pub returns-clause-is : goal.returns-clause-is
returns-clause-is g c = search (rules, none_left)
