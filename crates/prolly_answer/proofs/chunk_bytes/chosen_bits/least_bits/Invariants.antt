use Rattle.prolly_answer.proofs.ChunkSizes.{IsDoubled}
use Rattle.prolly_answer.proofs.chunk_bytes.chosen_bits.least_bits.Given as goal

-- Fewer bits are not enough, and the size is that by these.
abbrev pub invariant-loop-bits : goal.invariant-loop-bits
invariant-loop-bits l = IsDoubled l.entry l.wanted l.bits l.size
