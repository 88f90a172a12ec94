use Rattle.std.proofs.Common.{◌≡◌, ◌++◌, length}
use Rattle.prolly_range.proofs.located.put_first.Given as goal

abbrev pub invariant-loop-last : goal.invariant-loop-last
invariant-loop-last g l =
    l.first.items ++ l.due.items ≡ l.fn.first.items ++ l.fn.due.items

abbrev pub decreases-loop-last : goal.decreases-loop-last
decreases-loop-last g l = length l.first.items
