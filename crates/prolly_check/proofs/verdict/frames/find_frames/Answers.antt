use Rattle.std.proofs.lemmas.Grind.{common_steps}
use Rattle.std.proofs.Common.{arith}
use Rattle.prolly_check.proofs.CheckedFile.{one_more}
use Rattle.prolly_check.proofs.verdict.frames.find_frames.Goals as goal

pub loop-len-preserved : goal.loop-len-preserved
loop-len-preserved c = grind (arith, common_steps, one_more)
