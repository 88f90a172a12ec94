use Rattle.std.proofs.Common.{◌≡◌, take}
use Rattle.prolly_entry.specs.declared.version.Version.{Version}
use Rattle.prolly_tree.specs.Events.{faulty, leaf_events}
use Rattle.prolly_chunk.specs.LeafLevel.{leaf_level}
use Rattle.prolly_file.proofs.levels.leaves.Given as goal

abbrev pub invariant-loop-pair : goal.invariant-loop-pair
invariant-loop-pair g l = record {
  state : l.level ≡ leaf_level g.C.Cut.cut l.fn.cut (take l.pair-index l.pairs);
  sent : (version : Version) → l.events.items ≡ leaf_events (g.C.Cut.cut l.fn.cut) version faulty
      (take l.pair-index l.pairs);
}
