use Rattle.std.proofs.Common.{◌≡◌}
use Rattle.prolly_root_diff.specs.ToGo.{far}
use Rattle.prolly_root_diff.specs.Walks.{lefts_of}
use Rattle.prolly_answer.proofs.RootDiffSteps.{AreWrittenSoFar, IsWalking}
use Rattle.prolly_answer.proofs.answers.root_diff.write_changes.Given as goal

abbrev pub invariant-walk : goal.invariant-walk
invariant-walk g l = record {
  version : l.walk.version ≡ l.diff.version;
  walking : IsWalking g.S.ChunkSource.goes_over g.S.ChunkSource.failures g.S.ChunkSource.stands
      g.R.ChunkSource.goes_over g.R.ChunkSource.failures g.R.ChunkSource.stands l.diff.version
      l.diff.old.now.0 l.diff.new.now.0 l.fn.old l.old l.fn.new l.new l.walk.before l.walk.after
      l.walk.notes;
  written : AreWrittenSoFar g.W.Sink.seen l.diff.form l.diff.stat walking.changes l.changed l.counts
      l.fn.sink l.sink;
}

abbrev pub decreases-walk : goal.decreases-walk
decreases-walk g l = far (lefts_of l.walk)
