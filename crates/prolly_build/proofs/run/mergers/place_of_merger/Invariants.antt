use Rattle.std.proofs.Common.{◌≡◌, ◌+◌, ◌≤◌}
use Rattle.prolly_build.proofs.run.mergers.place_of_merger.Given as goal

abbrev pub invariant-loop-width : goal.invariant-loop-width
invariant-loop-width l = (l.place + l.fn.files ≡ l.fn.number + l.width) × (l.place + 2 ≤ l.width)

abbrev pub decreases-loop-width : goal.decreases-loop-width
decreases-loop-width l = l.width
