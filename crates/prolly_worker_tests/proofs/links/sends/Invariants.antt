use Rattle.std.proofs.Common.{◌≡◌}
use Rattle.prolly_worker_tests.proofs.links.sends.Given as goal

abbrev pub invariant-loop-item : goal.invariant-loop-item
invariant-loop-item g l = g.O.Out.link l.out ≡ g.O.Out.link l.initial.out
