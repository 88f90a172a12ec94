use Rattle.std.specs.Option.{option_copied}
use Rattle.prolly_check.proofs.RisingKeys.{ChunksRise}
use Rattle.prolly_check.proofs.verdict.order.test_order.Given as goal

abbrev pub invariant-loop-number : goal.invariant-loop-number
invariant-loop-number l = ChunksRise l.chunks (option_copied l.last) l.number
