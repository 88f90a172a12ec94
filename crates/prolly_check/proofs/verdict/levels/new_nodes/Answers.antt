use Rattle.std.proofs.Common.{arith}
use Rattle.prolly_check.specs.OpenLevels.{node_levels}
use Rattle.prolly_check.proofs.OpenLevels.{unused_more}
use Rattle.prolly_check.proofs.verdict.levels.new_nodes.Goals as goal

pub loop-level-preserved : goal.loop-level-preserved
loop-level-preserved c = grind (arith, unused_more)

pub returns-clause-count : goal.returns-clause-count
unfolding node_levels
returns-clause-count c = let count = c.loop-level.invariant.count in omega arith
