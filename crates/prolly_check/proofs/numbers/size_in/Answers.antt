use Rattle.std.proofs.lemmas.Grind.{common_steps}
use Rattle.std.proofs.Common.{arith}
use Rattle.prolly_check.proofs.TreeNumbers.{size_up_to}
use Rattle.prolly_check.proofs.numbers.size_in.Goals as goal

pub overflow_add-size : goal.overflow_add-size
overflow_add-size c = grind (arith, common_steps, size_up_to)
