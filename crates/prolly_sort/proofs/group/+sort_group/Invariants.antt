use Rattle.std.proofs.Common.{◌-◌, length}
use Rattle.prolly_sort.proofs.Grouping.{IsSortedUpTo}
use Rattle.prolly_sort.proofs.group.+sort_group.Given as goal

abbrev pub decreases-sort_group : goal.decreases-sort_group
decreases-sort_group l = l.levels

abbrev pub invariant-loop-start : goal.invariant-loop-start
invariant-loop-start l = IsSortedUpTo l.bytes l.initial.places l.places l.start

abbrev pub decreases-loop-start : goal.decreases-loop-start
decreases-loop-start l = length l.initial.places - l.start
