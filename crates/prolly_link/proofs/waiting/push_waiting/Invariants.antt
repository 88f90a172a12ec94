use Rattle.std.proofs.Common.{◌≡◌}
use Rattle.rtrb.specs.Ring.{sent as pushed}
use Rattle.prolly_link.specs.Identity.{producer_link}
use Rattle.prolly_link.proofs.waiting.push_waiting.Given as goal

abbrev pub invariant-loop : goal.invariant-loop
invariant-loop g l = (producer_link l.ring ≡ producer_link l.initial.ring) ×
    (pushed l.ring ≡ pushed l.initial.ring) × (l.message ≡ l.initial.message)
