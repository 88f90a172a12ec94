use Rattle.std.proofs.Common.{arith}
use Rattle.prolly_check.proofs.CheckedFile.{root_there}
use Rattle.prolly_check.proofs.file.CheckedFile.root.Goals as goal

pub returns-clause-is : goal.returns-clause-is
returns-clause-is c = grind (arith, root_there)
