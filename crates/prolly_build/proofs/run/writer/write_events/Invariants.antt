use Rattle.std.proofs.Common.{◌≡◌, ℕ, List, []}
use Rattle.prolly_io.specs.Sink.{SinkView}
use Rattle.prolly_build.specs.WriterState.{HasWritten}
use Rattle.prolly_build.proofs.run.writer.write_events.Given as goal

abbrev pub invariant-loop : goal.invariant-loop
invariant-loop g l = record {
  link : g.I.In.link l.input ≡ g.I.In.link l.initial.input;
  follows : g.I.In.Follows l.initial.input l.input;
  written : (head : List ℕ) (old : SinkView) →
      HasWritten head l.last_level [] old (g.W.Sink.seen l.initial.sink) l.fn.begun →
      HasWritten head l.last_level (g.I.In.received l.initial.input l.input) old
      (g.W.Sink.seen l.sink) l.written;
}
