use Rattle.std.proofs.Common.{◌≡◌, ◌++◌, length}
use Rattle.prolly_answer.specs.LookUps.{pair_lines}
use Rattle.prolly_answer.proofs.lines.append_lines.Given as goal

abbrev pub invariant-loop-key : goal.invariant-loop-key
invariant-loop-key l = l.lines.items ++ pair_lines l.notation l.pairs ≡
    l.initial.lines.items ++ pair_lines l.notation l.fn.pairs

abbrev pub decreases-loop-key : goal.decreases-loop-key
decreases-loop-key l = length l.pairs
