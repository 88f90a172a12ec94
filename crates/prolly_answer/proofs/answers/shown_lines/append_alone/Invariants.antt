use Rattle.std.proofs.Common.{◌≡◌, ◌++◌, map, take}
use Rattle.prolly_answer.specs.SetLines.{alone_lines}
use Rattle.prolly_answer.proofs.answers.shown_lines.append_alone.Given as goal

abbrev pub invariant-loop-key : goal.invariant-loop-key
invariant-loop-key l = l.lines.items ≡ l.initial.lines.items ++
    alone_lines l.notation (map (λ k. k.items) (take l.key-index l.keys))
