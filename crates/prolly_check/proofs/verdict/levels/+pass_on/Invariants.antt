use Rattle.std.proofs.Common.{length}
use Rattle.prolly_check.proofs.verdict.levels.+pass_on.Given as goal

abbrev pub decreases-pass_on : goal.decreases-pass_on
decreases-pass_on l = length l.levels.now
