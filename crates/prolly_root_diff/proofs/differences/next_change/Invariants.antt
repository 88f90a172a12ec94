use Rattle.std.proofs.Common.{◌≡◌, ◌≤◌, []}
use Rattle.std.specs.Option.{is_some}
use Rattle.prolly_root_diff.specs.Sides.{left_of}
use Rattle.prolly_root_diff.specs.FileWalks.{HasStill, WalksOn}
use Rattle.prolly_root_diff.specs.ToGo.{far}
use Rattle.prolly_root_diff.proofs.differences.next_change.Given as goal

abbrev pub invariant-walk : goal.invariant-walk
invariant-walk g l = record {
  nearer : far (record { before = left_of l.before; after = left_of l.after }) ≤
      far (record { before = left_of l.fn.before; after = left_of l.fn.after });
  old : HasStill g.S.ChunkSource.goes_over g.S.ChunkSource.failures l.fn.old l.old;
  new : HasStill g.R.ChunkSource.goes_over g.R.ChunkSource.failures l.fn.new l.new;
  walked : WalksOn g.S.ChunkSource.goes_over g.S.ChunkSource.stands g.R.ChunkSource.goes_over
      g.R.ChunkSource.stands l.version l.fn.old l.fn.new l.fn.before l.before l.fn.after l.after []
      l.fn.notes l.notes;
  notes : is_some l.notes ≡ is_some l.fn.notes;
}

abbrev pub decreases-walk : goal.decreases-walk
decreases-walk g l = far (record { before = left_of l.before; after = left_of l.after })
