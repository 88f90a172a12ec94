use Rattle.std.proofs.Common.{◌≡◌, ℕ, ◌+◌, ◌*◌, ◌≤◌, List, length}
use Rattle.prolly_entry.specs.Pair.{Pair}
use Rattle.prolly_c.specs.Writing.{Passes, Spells}
use Rattle.prolly_c.proofs.writer.pass_run.Given as goal

abbrev pub invariant-loop-count : goal.invariant-loop-count
invariant-loop-count l = record {
  shorter : length l.rest + 6 * l.count ≤ length l.entries;
  few : l.count ≤ 16;
  begun : l.count ≡ 0 → l.rest ≡ l.fn.entries;
  passes : (pairs : List Pair) (tail : List ℕ) → Spells l.fn.entries pairs tail →
      length tail ≡ l.behind → Passes l.fn.entries pairs tail l.count l.rest;
}

abbrev pub decreases-loop-count : goal.decreases-loop-count
decreases-loop-count l = length l.rest
