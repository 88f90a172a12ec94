use Rattle.std.proofs.Common.{◌≡◌, ℕ, ◌-◌, ◌*◌, ◌≤◌, List, length, drop}
use Rattle.prolly_entry.specs.Pair.{Pair}
use Rattle.prolly_c.proofs.Writing.{Adds}
use Rattle.prolly_c.specs.Runs.{IsEnd}
use Rattle.prolly_c.specs.Writing.{Spells, Wrote}
use Rattle.prolly_c.proofs.writer.add_leaf.Given as goal

abbrev pub invariant-loop-left : goal.invariant-loop-left
invariant-loop-left l = record {
  within : length l.left ≤ length l.entries;
  few : 6 * l.here.pairs ≤ length l.bytes - length l.left;
  fewer : l.here.runs ≤ l.here.pairs;
  room : length l.out ≡ length l.fn.out;
  more : l.fn.written.runs ≤ l.here.runs;
  behind : drop l.here.runs l.out ≡ drop l.here.runs l.fn.out;
  adds : (done pairs : List Pair) (tail : List ℕ) → IsEnd l.bytes l.fn.entries →
      Spells l.fn.entries pairs tail → length tail ≡ l.behind →
      Wrote l.bytes l.fn.out l.fn.written done →
      Adds l.bytes l.out l.here pairs tail done l.left l.fn.written;
}

abbrev pub decreases-loop-left : goal.decreases-loop-left
decreases-loop-left l = length l.left
