use Rattle.std.proofs.Common.{length}
use Rattle.prolly_worker_tests.proofs.applying.pairs_in.Given as goal

abbrev pub decreases-loop-key : goal.decreases-loop-key
decreases-loop-key l = length l.pairs
