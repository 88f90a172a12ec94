use Rattle.std.proofs.Common.{◌≡◌}
use Rattle.prolly_answer.specs.RootFaults.{StandsInFileOf}
use Rattle.prolly_answer.proofs.KeySteps.{IsAsking}
use Rattle.prolly_answer.proofs.Readers.{LooksOn}
use Rattle.prolly_answer.proofs.answers.root_get_keys.write_each.Given as goal

abbrev pub invariant-loop-key : goal.invariant-loop-key
invariant-loop-key g l = record {
  looks : LooksOn g.S.ChunkSource.goes_over g.S.ChunkSource.stands l.initial.source l.source
      l.fn.reader l.reader;
  reads : g.S.ChunkSource.failures l.source ≡ g.S.ChunkSource.failures l.initial.source;
  asking : IsAsking g.W.Sink.seen
      (StandsInFileOf g.S.ChunkSource.stands (g.S.ChunkSource.goes_over l.initial.source)
      l.fn.reader) l.fn.reader.version l.fn.reader.root l.notation (λ k. k.items)
      l.keys l.key-index l.initial.sink l.sink;
}
