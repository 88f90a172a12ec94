use Rattle.std.proofs.Common.{◌≡◌, ◌≤◌}
use Rattle.prolly_root.specs.ChunkSource.{GoesOverStill}
use Rattle.prolly_root_diff.specs.DueTrees.{all_due}
use Rattle.prolly_root_diff.specs.ToGo.{weights}
use Rattle.prolly_root_diff.proofs.LeafSteps.{ReadsNodes}
use Rattle.prolly_root_diff.proofs.root_leaves.next_leaf.Given as goal

abbrev pub invariant-nodes : goal.invariant-nodes
invariant-nodes g l = record {
  nodes : ReadsNodes g.S.ChunkSource.goes_over g.S.ChunkSource.stands l.version l.fn.source
      l.fn.due.items l.due.items;
  nearer : weights (all_due l.due.items) ≤ weights (all_due l.fn.due.items);
  goes : GoesOverStill g.S.ChunkSource.goes_over l.fn.source l.source;
  failures : g.S.ChunkSource.failures l.source ≡ g.S.ChunkSource.failures l.fn.source;
}

abbrev pub decreases-nodes : goal.decreases-nodes
decreases-nodes g l = weights (all_due l.due.items)
