use Rattle.std.proofs.Common.{◌↔◌, [], length}
use Rattle.prolly_look_up.specs.Entries.{IsNode}
use Rattle.prolly_look_up.proofs.entries.is_node.Given as goal

abbrev pub invariant-loop-rest : goal.invariant-loop-rest
invariant-loop-rest l = IsNode l.version l.fn.entries [] ↔ IsNode l.version l.entries []

abbrev pub decreases-loop-rest : goal.decreases-loop-rest
decreases-loop-rest l = length l.entries
