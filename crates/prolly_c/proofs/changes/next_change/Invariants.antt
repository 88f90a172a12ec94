use Rattle.std.proofs.Common.{◌+◌}
use Rattle.prolly_tree.specs.Walks.{AreAlike, AreMaps, Maps}
use Rattle.prolly_c.specs.Changes.{AreAt}
use Rattle.prolly_c.specs.Cursor.{weight}
use Rattle.prolly_c.proofs.changes.next_change.Given as goal

abbrev pub invariant-loop-pair : goal.invariant-loop-pair
invariant-loop-pair l = (maps : Maps) → AreMaps maps →
    AreAt l.old l.old_runs l.new l.new_runs l.fn.cursors maps →
    (mid : Maps) × AreAlike maps mid × AreAt l.old l.old_runs l.new l.new_runs l.here mid

abbrev pub decreases-loop-pair : goal.decreases-loop-pair
decreases-loop-pair l = weight l.old_runs l.here.before + weight l.new_runs l.here.after
