use Rattle.std.proofs.Common.{◌≡◌}
use Rattle.prolly_link.specs.Drained.{Drains}
use Rattle.prolly_link.proofs.receiver.Receiver.drain.Given as goal

abbrev pub invariant-loop : goal.invariant-loop
invariant-loop g l = (l.receiver.link ≡ l.fn.self.link) × Drains l.fn.self.progress l.fn.self.items
    l.receiver.progress l.receiver.items
