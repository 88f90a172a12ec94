use Rattle.std.proofs.Common.{◌≡◌}
use Rattle.rtrb.specs.Ring.{received as popped}
use Rattle.prolly_link.specs.Identity.{consumer_link}
use Rattle.prolly_link.proofs.waiting.pop_waiting.Given as goal

abbrev pub invariant-loop : goal.invariant-loop
invariant-loop g l = (consumer_link l.ring ≡ consumer_link l.initial.ring) ×
    (popped l.ring ≡ popped l.initial.ring)
