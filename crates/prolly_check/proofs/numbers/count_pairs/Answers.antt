use Rattle.std.proofs.Common.{arith}
use Rattle.std.proofs.lemmas.List.{length-append}
use Rattle.prolly_check.proofs.numbers.count_pairs.Goals as goal

pub overflow_add-count : goal.overflow_add-count
overflow_add-count c = grind (arith, length-append)

pub loop-leaf-preserved : goal.loop-leaf-preserved
loop-leaf-preserved c = grind (arith, length-append)
