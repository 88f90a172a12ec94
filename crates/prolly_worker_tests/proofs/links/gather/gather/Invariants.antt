use Rattle.std.proofs.Common.{◌≡◌}
use Rattle.prolly_worker_tests.proofs.links.gather.gather.Given as goal

abbrev pub invariant-loop : goal.invariant-loop
invariant-loop g l = record {
  link : g.I.In.link l.input ≡ g.I.In.link l.initial.input;
  follows : g.I.In.Follows l.initial.input l.input;
  got : g.I.In.received l.initial.input l.input ≡ l.got.items;
}
