use Rattle.std.proofs.Common.{vec_len}
use Rattle.prolly_build.proofs.run.stages.+run_from_top.Given as goal

abbrev pub decreases-run_from_top : goal.decreases-run_from_top
decreases-run_from_top g l = vec_len l.events
