use Rattle.std.proofs.Common.{vec_len}
use Rattle.prolly_build.proofs.run.mergers.+merge_tree.Given as goal

abbrev pub decreases-merge_tree : goal.decreases-merge_tree
decreases-merge_tree g l = vec_len l.forks
