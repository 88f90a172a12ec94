use Rattle.std.proofs.Common.{◌≡◌, ◌++◌}
use Rattle.prolly_worker_tests.proofs.links.copies.copy_all.Given as goal

abbrev pub invariant-loop : goal.invariant-loop
invariant-loop g l = record {
  input_link : g.I.In.link l.input ≡ g.I.In.link l.fn.input;
  follows : g.I.In.Follows l.fn.input l.input;
  out_link : g.O.Out.link l.out ≡ g.O.Out.link l.fn.out;
  copied : g.O.Out.sent l.out ≡ g.O.Out.sent l.fn.out ++ g.I.In.received l.fn.input l.input;
}
