use Rattle.std.proofs.Common.{arith}
use Rattle.prolly_check.proofs.CheckedFile.{one_content}
use Rattle.prolly_check.proofs.tree.Tree.file.Goals as goal

pub returns-clause-is : goal.returns-clause-is
returns-clause-is c = grind (arith, one_content)
