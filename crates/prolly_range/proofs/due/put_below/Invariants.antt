use Rattle.std.proofs.Common.{◌≡◌, ◌++◌, length, map}
use Rattle.prolly_look_up.specs.Way.{level_of}
use Rattle.prolly_range.specs.Children.{met_of}
use Rattle.prolly_range.specs.Dues.{due_of, seen_due}
use Rattle.prolly_range.proofs.due.put_below.Given as goal

abbrev pub invariant-loop-child : goal.invariant-loop-child
invariant-loop-child l =
    map (seen_due (level_of l.chunk)) (map met_of l.met.items) ++ map due_of l.due.items ≡
    map (seen_due (level_of l.chunk)) (map met_of l.initial.met.items) ++
    map due_of l.fn.due.items

abbrev pub decreases-loop-child : goal.decreases-loop-child
decreases-loop-child l = length l.met.items
