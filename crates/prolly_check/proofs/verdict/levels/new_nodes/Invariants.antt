use Rattle.std.proofs.Common.{◌≡◌, length}
use Rattle.prolly_check.specs.OpenLevels.{AreUnused}
use Rattle.prolly_check.proofs.verdict.levels.new_nodes.Given as goal

abbrev pub invariant-loop-level : goal.invariant-loop-level
invariant-loop-level l = record {
  unused : AreUnused l.cut l.version 1 l.nodes.items;
  count : length l.nodes.items ≡ l.level;
}
