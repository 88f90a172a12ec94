use Rattle.std.proofs.lemmas.Grind.{common_steps}
use Rattle.std.proofs.Common.{arith}
use Rattle.prolly_file.proofs.scratch_build.root_of.Goals as goal

pub returns : goal.returns
returns c = grind (arith, common_steps) steps 2000000
