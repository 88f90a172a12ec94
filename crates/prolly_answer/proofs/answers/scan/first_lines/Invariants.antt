use Rattle.std.proofs.Common.{◌≡◌, ◌++◌, length, take}
use Rattle.prolly_answer.specs.LookUps.{pair_lines}
use Rattle.prolly_answer.proofs.answers.scan.first_lines.Given as goal

abbrev pub invariant-loop-left : goal.invariant-loop-left
invariant-loop-left l = l.lines.items ++ pair_lines l.notation (take l.left l.leaves) ≡
    pair_lines l.notation (take l.limit l.fn.leaves)

abbrev pub decreases-loop-left : goal.decreases-loop-left
decreases-loop-left l = length l.leaves
