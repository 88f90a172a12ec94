use Rattle.std.proofs.Common.{◌≡◌, ◌++◌}
use Rattle.prolly_entry.specs.declared.version.Version.{Version}
use Rattle.prolly_tree.specs.Events.{faulty, leaf_events}
use Rattle.prolly_chunk.specs.LeafLevel.{leaf_level}
use Rattle.prolly_stage.proofs.leaf.send_leaves.Given as goal

abbrev pub invariant-loop : goal.invariant-loop
invariant-loop g l = record {
  input_link : g.I.In.link l.input ≡ g.I.In.link l.fn.input;
  follows : g.I.In.Follows l.fn.input l.input;
  out_link : g.O.Out.link l.out ≡ g.O.Out.link l.fn.out;
  state : l.leaves ≡ leaf_level g.C.Cut.cut l.fn.cut (g.I.In.received l.fn.input l.input);
  sent : (version : Version) → g.O.Out.sent l.out ≡ g.O.Out.sent l.fn.out ++
      leaf_events (g.C.Cut.cut l.fn.cut) version faulty (g.I.In.received l.fn.input l.input);
}
