use Rattle.prolly_check.proofs.TreeNumbers.{AreUpTo}
use Rattle.prolly_check.proofs.numbers.levels_in.Given as goal

abbrev pub invariant-loop-number : goal.invariant-loop-number
invariant-loop-number l = AreUpTo l.chunks l.number l.levels.items
