use Rattle.std.proofs.Common.{length}
use Rattle.prolly_c.proofs.Entries.{SeeksIn}
use Rattle.prolly_c.specs.Runs.{IsEnd}
use Rattle.prolly_c.proofs.leaf.entries_from.Given as goal

abbrev pub invariant-loop-key : goal.invariant-loop-key
invariant-loop-key l = record {
  seeks : SeeksIn l.from l.fn.entries l.left;
  end : IsEnd l.fn.entries l.left;
}

abbrev pub decreases-loop-key : goal.decreases-loop-key
decreases-loop-key l = length l.left
