use Rattle.std.proofs.Common.{◌≡◌, List, map}
use Rattle.prolly_root.specs.ChunkFile.{ChunkFile}
use Rattle.prolly_root.specs.ChunkSource.{GoesOverStill}
use Rattle.prolly_range.specs.Prover.{located_due}
use Rattle.prolly_range.specs.ToGo.{to_go}
use Rattle.prolly_range.specs.FirstFault.{DueAt}
use Rattle.prolly_range.specs.Places.{EachStandsAs}
use Rattle.prolly_range.proofs.Finds.{HasGone}
use Rattle.prolly_range.proofs.Writing.{HaveWritten}
use Rattle.prolly_range.proofs.prover.write_chunks.Given as goal

abbrev pub invariant-loop-chunk : goal.invariant-loop-chunk
invariant-loop-chunk g l = record {
  written : HaveWritten l.version (map located_due l.fn.due.items) (g.W.Sink.seen l.fn.sink)
      (g.W.Sink.seen l.sink) (map located_due l.due.items);
  goes : GoesOverStill g.S.ChunkSource.goes_over l.fn.source l.source;
  reads : g.S.ChunkSource.failures l.source ≡ g.S.ChunkSource.failures l.fn.source;
  writes : (g.W.Sink.seen l.sink).failures ≡ (g.W.Sink.seen l.fn.sink).failures;
  tells : (file : ChunkFile) (at : List DueAt) → g.S.ChunkSource.goes_over l.fn.source file →
      EachStandsAs g.S.ChunkSource.stands file l.fn.due.items at →
      (now : List DueAt) × HasGone l.version file at now ×
      EachStandsAs g.S.ChunkSource.stands file l.due.items now;
}

abbrev pub decreases-loop-chunk : goal.decreases-loop-chunk
decreases-loop-chunk g l = to_go (map located_due l.due.items)
