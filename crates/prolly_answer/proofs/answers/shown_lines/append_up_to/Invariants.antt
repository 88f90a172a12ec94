use Rattle.std.proofs.Common.{◌≡◌, ◌++◌, length, map, true}
use Rattle.prolly_entry.specs.Keys.{Rising}
use Rattle.prolly_range.specs.SortedKeys.{is_one_of, keys_above}
use Rattle.prolly_answer.proofs.ShownLines.{lines_up_to}
use Rattle.prolly_answer.proofs.answers.shown_lines.append_up_to.Given as goal

abbrev pub invariant-loop-first : goal.invariant-loop-first
invariant-loop-first l = record {
  rising : Rising (map (λ k. k.items) l.left);
  one : is_one_of (map (λ k. k.items) l.left) l.fn.key ≡ true;
  behind : keys_above l.fn.key (map (λ k. k.items) l.left) ≡
      keys_above l.fn.key (map (λ k. k.items) l.fn.keys);
  lines : l.lines.items ++ lines_up_to l.notation (record { key = l.fn.key; value = l.fn.value })
      (map (λ k. k.items) l.left) ≡
      l.initial.lines.items ++ lines_up_to l.notation (record { key = l.fn.key; value = l.fn.value })
      (map (λ k. k.items) l.fn.keys);
}

abbrev pub decreases-loop-first : goal.decreases-loop-first
decreases-loop-first l = length l.left
