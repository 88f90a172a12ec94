use Rattle.std.proofs.Common.{◌↔◌, length}
use Rattle.prolly_look_up.specs.Entries.{IsSomeLeaf}
use Rattle.prolly_look_up.proofs.entries.is_leaf.Given as goal

abbrev pub invariant-loop-rest : goal.invariant-loop-rest
invariant-loop-rest l = IsSomeLeaf l.fn.entries ↔ IsSomeLeaf l.entries

abbrev pub decreases-loop-rest : goal.decreases-loop-rest
decreases-loop-rest l = length l.entries
