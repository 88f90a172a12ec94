use Rattle.std.proofs.Common.{◌≡◌, None}
use Rattle.prolly_root.specs.ChunkSource.{GoesOverStill}
use Rattle.prolly_root_diff.specs.LeafWalk.{due_of_walk}
use Rattle.prolly_root_diff.specs.ToGo.{weights}
use Rattle.prolly_apply.proofs.Loading.{IsLoading}
use Rattle.prolly_apply.proofs.loader.send_leaves.Given as goal

abbrev pub invariant-loop-leaves : goal.invariant-loop-leaves
invariant-loop-leaves g l = record {
  version : l.leaves.version ≡ l.version;
  goes : l.leaves.fault ≡ None;
  loading : IsLoading (g.S.ChunkSource.goes_over l.fn.source) g.S.ChunkSource.stands l.version
      l.root.0 (g.O.Out.sent l.fn.out) (g.O.Out.sent l.out) l.leaves.due.items;
  link : g.O.Out.link l.out ≡ g.O.Out.link l.fn.out;
  still : GoesOverStill g.S.ChunkSource.goes_over l.fn.source l.source;
  failures : g.S.ChunkSource.failures l.source ≡ g.S.ChunkSource.failures l.fn.source;
}

abbrev pub decreases-loop-leaves : goal.decreases-loop-leaves
decreases-loop-leaves g l = weights (due_of_walk l.leaves)
