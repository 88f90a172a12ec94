use Rattle.std.proofs.Common.{◌+◌, length}
use Rattle.prolly_tree.specs.Walks.{AreAlike}
use Rattle.prolly_diff.proofs.differences.next_change.Given as goal

abbrev pub invariant-loop-key : goal.invariant-loop-key
invariant-loop-key l = AreAlike (record { before = l.fn.before; after = l.fn.after })
    (record { before = l.before; after = l.after })

abbrev pub decreases-loop-key : goal.decreases-loop-key
decreases-loop-key l = length l.before + length l.after
