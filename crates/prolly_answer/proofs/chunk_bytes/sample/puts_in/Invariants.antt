use Rattle.std.proofs.Common.{length}
use Rattle.std.specs.Option.{option_copied}
use Rattle.prolly_answer.proofs.Sampling.{IsCounting}
use Rattle.prolly_answer.proofs.chunk_bytes.sample.puts_in.Given as goal

-- Some records were counted.
abbrev pub invariant-loop-at : goal.invariant-loop-at
invariant-loop-at l = IsCounting l.front l.rest l.count (option_copied l.last_key) l.puts.entries
    l.puts.bytes

abbrev pub decreases-loop-at : goal.decreases-loop-at
decreases-loop-at l = length l.rest
