use Rattle.std.proofs.Common.{◌≡◌, [], true, length}
use Rattle.prolly_io.proofs.Written.{IsWritten}
use Rattle.prolly_io.proofs.format.writer.write_all.Given as goal

abbrev pub invariant-loop-rest : goal.invariant-loop-rest
invariant-loop-rest g l = record {
  keeping : (g.W.Sink.seen l.initial.sink).is_keeping ≡ true →
      (g.W.Sink.seen l.sink).is_keeping ≡ true;
  written : (g.W.Sink.seen l.initial.sink).is_keeping ≡ true →
      IsWritten ((g.W.Sink.seen l.initial.sink).taken) ((g.W.Sink.seen l.sink).taken) l.bytes
      l.rest;
  failures : (g.W.Sink.seen l.sink).failures ≡ (g.W.Sink.seen l.initial.sink).failures;
  none : l.bytes ≡ [] → (l.rest ≡ []) × (l.sink ≡ l.initial.sink);
}

abbrev pub decreases-loop-rest : goal.decreases-loop-rest
decreases-loop-rest g l = length l.rest
