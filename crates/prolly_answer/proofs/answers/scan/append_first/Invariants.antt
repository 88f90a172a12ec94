use Rattle.std.proofs.Common.{◌≡◌, ◌++◌, ◌-◌, length, take}
use Rattle.prolly_answer.specs.LookUps.{pair_lines}
use Rattle.prolly_answer.proofs.answers.scan.append_first.Given as goal

abbrev pub invariant-loop-left : goal.invariant-loop-left
invariant-loop-left l = record {
  lines : l.lines.items ++ pair_lines l.notation (take l.left l.leaf) ≡
      l.initial.lines.items ++ pair_lines l.notation (take l.limit l.fn.leaf);
  left : l.left - length l.leaf ≡ l.limit - length l.fn.leaf;
}

abbrev pub decreases-loop-left : goal.decreases-loop-left
decreases-loop-left l = l.left
