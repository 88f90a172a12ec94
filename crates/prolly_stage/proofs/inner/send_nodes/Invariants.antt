use Rattle.std.proofs.Common.{◌≡◌, ◌++◌}
use Rattle.prolly_tree.specs.Events.{faulty, inner_events}
use Rattle.prolly_chunk.specs.NodeLevel.{node_level}
use Rattle.prolly_stage.proofs.inner.send_nodes.Given as goal

abbrev pub invariant-loop : goal.invariant-loop
invariant-loop g l = record {
  input_link : g.I.In.link l.input ≡ g.I.In.link l.fn.input;
  follows : g.I.In.Follows l.fn.input l.input;
  out_link : g.O.Out.link l.out ≡ g.O.Out.link l.fn.out;
  state : l.nodes ≡ node_level g.C.Cut.cut l.fn.cut l.fn.version l.fn.level
      (g.I.In.received l.fn.input l.input);
  sent : g.O.Out.sent l.out ≡ g.O.Out.sent l.fn.out ++ inner_events l.fn.level
      (g.C.Cut.cut l.fn.cut) l.fn.version faulty (g.I.In.received l.fn.input l.input);
}
