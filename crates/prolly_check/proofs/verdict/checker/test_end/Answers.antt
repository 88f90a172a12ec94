use Rattle.std.proofs.Common.{arith}
use Rattle.prolly_check.proofs.CheckedFile.{ends_so}
use Rattle.prolly_look_up.specs.lemmas.SameBytes.{equal, unequal}
use Rattle.prolly_check.proofs.verdict.checker.test_end.Goals as goal

pub returns-then-ne-clause-err : goal.returns-then-ne-clause-err
returns-then-ne-clause-err c = grind (arith, ends_so, unequal)

pub returns-clause-ok : goal.returns-clause-ok
returns-clause-ok c = grind (arith, ends_so, equal)
