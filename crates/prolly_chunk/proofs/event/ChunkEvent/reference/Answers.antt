use Rattle.std.proofs.Common.{rules}
use Rattle.prolly_chunk.proofs.event.ChunkEvent.reference.Goals as goal

pub returns-in-None : goal.returns-in-None
returns-in-None c = search rules
