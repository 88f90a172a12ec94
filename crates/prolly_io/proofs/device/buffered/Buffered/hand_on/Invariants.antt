use Rattle.std.proofs.Common.{◌≡◌, ◌-◌, ◌++◌, true, drop, vec_len}
use Rattle.prolly_io.proofs.device.buffered.Buffered.hand_on.Given as goal

-- what is held no more was taken by the other sink
abbrev pub invariant-loop-self : goal.invariant-loop-self
invariant-loop-self g l = record {
  keeping : (g.W.Sink.seen l.initial.self.sink).is_keeping ≡ true →
      (g.W.Sink.seen l.self.sink).is_keeping ≡ true;
  bytes : (g.W.Sink.seen l.initial.self.sink).is_keeping ≡ true
      → (g.W.Sink.seen l.self.sink).taken ++ drop l.self.sent l.self.held.items
      ≡ (g.W.Sink.seen l.initial.self.sink).taken ++ drop l.initial.self.sent
      l.initial.self.held.items;
  held : l.self.held ≡ l.initial.self.held;
  has_failed : l.self.has_failed ≡ l.initial.self.has_failed;
  failures : l.self.failures ≡ l.initial.self.failures;
  unfailed : (g.W.Sink.seen l.self.sink).failures ≡ (g.W.Sink.seen l.initial.self.sink).failures;
}

abbrev pub decreases-loop-self : goal.decreases-loop-self
decreases-loop-self g l = vec_len l.self.held - l.self.sent
