use Rattle.std.proofs.lemmas.Grind.{common_steps}
use Rattle.std.proofs.Common.{rules, refl, inl, inr, arith}
use Rattle.prolly_build.proofs.WritingSteps.{unended}
use Rattle.prolly_build.proofs.end.end_file.Goals as goal

pub returns-in-Err-clause-err : goal.returns-in-Err-clause-err
returns-in-Err-clause-err g c = λ head level events old h.
    inl (
      refl,
      inr (unended c.in-Some.last h (c.in-Some.is) (omega (arith, c.if-chunks.false, c.chunks.ensures)) (search rules)
          (search rules) (search rules)),
    )

pub returns-in-Ok-clause-ok : goal.returns-in-Ok-clause-ok
returns-in-Ok-clause-ok g c = grind (arith, common_steps) steps 2000000
