use Rattle.std.proofs.Common.{map}
use Rattle.prolly_root.proofs.Passing.{HasFrames}
use Rattle.prolly_root.proofs.proof.prover.proof_of.Given as goal

abbrev pub invariant-loop-chunk : goal.invariant-loop-chunk
invariant-loop-chunk l =
    HasFrames l.fn.version (map (λ c. c.now) l.chunks) l.chunk-index l.proof.items
