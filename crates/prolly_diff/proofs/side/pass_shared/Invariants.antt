use Rattle.std.proofs.Common.{length}
use Rattle.prolly_tree.specs.Walks.{AreAlike}
use Rattle.prolly_diff.proofs.side.pass_shared.Given as goal

abbrev pub invariant-loop : goal.invariant-loop
invariant-loop l = AreAlike (record { before = l.fn.before; after = l.fn.after })
    (record { before = l.before; after = l.after })

abbrev pub decreases-loop : goal.decreases-loop
decreases-loop l = length l.before
