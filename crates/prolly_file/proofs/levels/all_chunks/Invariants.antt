use Rattle.std.proofs.Common.{◌≡◌, ◌<◌, ◌-◌}
use Rattle.prolly_tree.specs.Events.{clean}
use Rattle.prolly_tree.specs.Pipeline.{pipeline_events}
use Rattle.prolly_file.proofs.levels.all_chunks.Given as goal

abbrev pub invariant-loop-alloc : goal.invariant-loop-alloc
invariant-loop-alloc g l = record {
  sent : l.events.items ≡ pipeline_events l.level (g.C.Cut.cut l.fn.cut) l.fn.version clean l.pairs;
  low : l.level < l.max_levels;
}

abbrev pub decreases-loop-alloc : goal.decreases-loop-alloc
decreases-loop-alloc g l = l.max_levels - l.level
