use Rattle.std.proofs.Common.{◌≡◌}
use Rattle.prolly_worker_tests.proofs.links.receives.Given as goal

abbrev pub invariant-loop-next : goal.invariant-loop-next
invariant-loop-next g l = g.I.In.link l.input ≡ g.I.In.link l.initial.input
