use Rattle.std.proofs.Common.{◌≡◌, ◌-◌, drop, length}
use Rattle.prolly_look_up.specs.Entries.{children_in}
use Rattle.prolly_look_up.specs.Sought.{IsMark, child_sought, sought_of}
use Rattle.prolly_look_up.proofs.sought.child_sought.Given as goal

abbrev pub invariant-loop-child : goal.invariant-loop-child
invariant-loop-child l = record {
  here : IsMark l.version l.chunk l.here;
  passed : IsMark l.version l.chunk l.passed;
  child : child_sought (sought_of l.initial.sought) (children_in l.version (drop 1 l.chunk)) ≡
      child_sought (sought_of l.sought) (children_in l.version (drop l.here.offset l.chunk));
}

abbrev pub decreases-loop-child : goal.decreases-loop-child
decreases-loop-child l = length l.chunk - l.here.offset
