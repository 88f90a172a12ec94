use Rattle.prolly_check.proofs.TreeNumbers.{CountedTo}
use Rattle.prolly_check.proofs.numbers.missing_in.Given as goal

abbrev pub invariant-loop-number : goal.invariant-loop-number
invariant-loop-number l = CountedTo l.index l.chunks l.number l.missing
