use Rattle.std.proofs.Common.{◌≡◌, take}
use Rattle.prolly_chunk.specs.Missing.{chunks_size}
use Rattle.prolly_check.proofs.numbers.size_in.Given as goal

abbrev pub invariant-loop-number : goal.invariant-loop-number
invariant-loop-number l = l.size ≡ chunks_size (take l.number l.chunks)
