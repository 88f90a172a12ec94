use Rattle.std.proofs.lemmas.Grind.{common_steps}
use Rattle.std.proofs.Common.{arith}
use Rattle.prolly_entry.proofs.cut.KeyCutCut.is_boundary.Goals as goal

pub returns-in-None : goal.returns-in-None
returns-in-None c = grind (arith, common_steps) steps 2000000

pub returns-then-not-is_empty : goal.returns-then-not-is_empty
returns-then-not-is_empty c = rw (← c.in-Some.ensures.key, ← c.in-Some.ensures.key_len)
    (grind (arith, common_steps) steps 2000000)

pub returns-else-not-is_empty : goal.returns-else-not-is_empty
returns-else-not-is_empty c = grind (arith, common_steps) steps 2000000
