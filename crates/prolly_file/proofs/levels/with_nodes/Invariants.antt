use Rattle.std.proofs.Common.{◌≡◌, ◌++◌}
use Rattle.std.specs.Vec.Iter.{into_iter_items}
use Rattle.prolly_tree.specs.Events.{faulty, inner_events}
use Rattle.prolly_chunk.specs.NodeLevel.{node_level}
use Rattle.prolly_file.proofs.levels.with_nodes.Given as goal

abbrev pub invariant-loop-event : goal.invariant-loop-event
invariant-loop-event g l = record {
  whole : l.yielded ++ into_iter_items l.event-iterator ≡ l.fn.events.items;
  state : l.nodes ≡ node_level g.C.Cut.cut l.fn.cut l.fn.version l.fn.level l.yielded;
  sent : l.more.items ≡ inner_events l.fn.level (g.C.Cut.cut l.fn.cut) l.fn.version faulty
      l.yielded;
}
