use Rattle.std.proofs.Common.{◌≡◌}
use Rattle.prolly_answer.specs.RootFaults.{StandsInFileOf}
use Rattle.prolly_answer.proofs.KeyRanks.{AreBytes, room_above}
use Rattle.prolly_answer.proofs.Readers.{LooksOn}
use Rattle.prolly_answer.proofs.RootSteps.{IsUnderWay}
use Rattle.prolly_answer.proofs.answers.root_pairs.write_leaves.Given as goal

abbrev pub invariant-loop-next : goal.invariant-loop-next
invariant-loop-next g l = record {
  looks : LooksOn g.S.ChunkSource.goes_over g.S.ChunkSource.stands l.initial.source l.source
      l.fn.reader l.reader;
  reads : g.S.ChunkSource.failures l.source ≡ g.S.ChunkSource.failures l.initial.source;
  way : IsUnderWay g.W.Sink.seen
      (StandsInFileOf g.S.ChunkSource.stands (g.S.ChunkSource.goes_over l.initial.source)
      l.fn.reader) l.fn.reader.version l.fn.reader.root l.fn.from l.fn.portion l.left
      l.next.items l.initial.sink l.sink;
  bytes : AreBytes l.next.items;
}

abbrev pub decreases-loop-next : goal.decreases-loop-next
decreases-loop-next g l = room_above l.next.items
