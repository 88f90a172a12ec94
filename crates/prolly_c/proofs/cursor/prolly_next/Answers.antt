use Rattle.std.proofs.Common.{arith}
use Rattle.std.proofs.lemmas.Grind.{common_steps}
use Rattle.prolly_c.proofs.cursor.prolly_next.Goals as goal

pub returns-in-Ok-Some-clause-next : goal.returns-in-Ok-Some-clause-next
returns-in-Ok-Some-clause-next c = λ done pairs at. let step = c.in-Ok-Some.ensures.steps pairs at in
    grind (arith, common_steps)

pub returns-in-Ok-None-clause-none : goal.returns-in-Ok-None-clause-none
returns-in-Ok-None-clause-none c = λ none pairs at. let step = c.in-Ok-None.ensures.steps pairs at in
    grind (arith, common_steps)

pub returns-in-Err-clause-answers : goal.returns-in-Err-clause-answers
returns-in-Err-clause-answers c = λ pairs at. absurd (c.in-Err.ensures.steps pairs at)
