use Rattle.std.proofs.Common.{length}
use Rattle.prolly_root.proofs.Passing.{Stands}
use Rattle.prolly_root.proofs.proof.verifier.go_down.Given as goal

abbrev pub invariant-loop-chunk : goal.invariant-loop-chunk
invariant-loop-chunk l = Stands l.version l.root.0 l.key l.chunks l.due l.number l.rest

abbrev pub decreases-loop-chunk : goal.decreases-loop-chunk
decreases-loop-chunk l = length l.rest
