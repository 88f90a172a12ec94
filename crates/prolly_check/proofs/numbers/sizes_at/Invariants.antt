use Rattle.std.proofs.Common.{◌≡◌, length, map, take}
use Rattle.prolly_check.specs.Numbers.{at_level}
use Rattle.prolly_check.proofs.numbers.sizes_at.Given as goal

abbrev pub invariant-loop-number : goal.invariant-loop-number
invariant-loop-number l = l.sizes.items ≡ map length (at_level l.level (take l.number l.chunks))
