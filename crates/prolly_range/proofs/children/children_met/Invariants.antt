use Rattle.std.proofs.Common.{◌≡◌, ◌≤◌, ◌+◌, ◌++◌, [], Some, length, map, option_map}
use Rattle.prolly_look_up.specs.Entries.{IsNode, children_in}
use Rattle.prolly_range.specs.Children.{met_of, seen_met}
use Rattle.prolly_range.specs.KeySet.{met_in, set_of}
use Rattle.prolly_range.proofs.children.children_met.Given as goal

abbrev pub invariant-loop-left : goal.invariant-loop-left
invariant-loop-left l = record {
  node : IsNode l.version l.entries [];
  met : map met_of l.met.items ++ map seen_met (met_in (λ c. c.key) l.number
      (option_map set_of l.left) (children_in l.version l.entries)) ≡
      map seen_met (met_in (λ c. c.key) 0 (Some (set_of l.fn.set))
      (children_in l.version l.fn.entries));
  few : l.number + length l.entries ≤ length l.fn.entries;
}

abbrev pub decreases-loop-left : goal.decreases-loop-left
decreases-loop-left l = length l.entries
