use Rattle.std.proofs.Common.{◌+◌, length}
use Rattle.prolly_bench.proofs.trees.count_changes.Given as goal

abbrev pub decreases-loop-count : goal.decreases-loop-count
decreases-loop-count l = length l.differences.before + length l.differences.after
