use Rattle.std.proofs.Common.{◌-◌, ◌<◌, ◌≤◌, get_or, length}
use Rattle.prolly_look_up.specs.Sought.{sought_of}
use Rattle.prolly_c.specs.Runs.{StartsBehind, StartsUpTo}
use Rattle.prolly_c.specs.declared.run.Run.{Run}
use Rattle.prolly_c.proofs.run.count_up_to.Given as goal

abbrev pub invariant-loop-low : goal.invariant-loop-low
invariant-loop-low l = record {
  order : l.low ≤ l.high;
  within : l.high ≤ length l.runs;
  last : (other : Run) → 0 < l.low →
      StartsUpTo l.bytes (sought_of l.sought) (get_or l.runs (l.low - 1) other);
  behind : (other : Run) → l.high < length l.runs →
      StartsBehind l.bytes (sought_of l.sought) (get_or l.runs l.high other);
}

abbrev pub decreases-loop-low : goal.decreases-loop-low
decreases-loop-low l = l.high - l.low
