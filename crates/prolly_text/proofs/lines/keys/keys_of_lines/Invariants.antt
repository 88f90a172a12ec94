use Rattle.std.proofs.Common.{length, map}
use Rattle.prolly_text.proofs.KeySteps.{AreRead}
use Rattle.prolly_text.proofs.lines.keys.keys_of_lines.Given as goal

abbrev pub invariant-loop-rest : goal.invariant-loop-rest
invariant-loop-rest l = AreRead l.notation l.text l.rest (map (λ k. k.items) l.keys.items)

abbrev pub decreases-loop-rest : goal.decreases-loop-rest
decreases-loop-rest l = length l.rest
