use Rattle.std.proofs.Common.{◌≡◌, ◌++◌, length, map}
use Rattle.prolly_entry.specs.Keys.{Rising}
use Rattle.prolly_range.specs.Found.{AreSomeOf}
use Rattle.prolly_answer.specs.SetLines.{keys_left}
use Rattle.prolly_answer.proofs.ShownLines.{past_lines}
use Rattle.prolly_answer.proofs.answers.shown_lines.append_past.Given as goal

abbrev pub invariant-loop-key : goal.invariant-loop-key
invariant-loop-key l = record {
  rising : Rising (map (λ k. k.items) l.left);
  some : AreSomeOf l.pairs (map (λ k. k.items) l.left);
  behind : keys_left l.pairs (map (λ k. k.items) l.left) ≡
      keys_left l.fn.pairs (map (λ k. k.items) l.fn.keys);
  lines : l.lines.items ++ past_lines l.notation l.pairs (map (λ k. k.items) l.left) ≡
      l.initial.lines.items ++ past_lines l.notation l.fn.pairs (map (λ k. k.items) l.fn.keys);
}

abbrev pub decreases-loop-key : goal.decreases-loop-key
decreases-loop-key l = length l.pairs
