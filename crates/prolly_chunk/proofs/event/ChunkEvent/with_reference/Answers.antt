use Rattle.std.proofs.Common.{rules}
use Rattle.prolly_chunk.proofs.event.ChunkEvent.with_reference.Goals as goal

pub invariant_of-result : goal.invariant_of-result
invariant_of-result c = search rules
