use Rattle.std.proofs.lemmas.Grind.{common_steps}
use Rattle.std.proofs.Common.{◌≡◌, ℕ, List, length, ap, rules, refl, arith}
use Rattle.prolly_tree.specs.Events.{has_level}
use Rattle.prolly_build.proofs.WritingSteps.{tall_now, failed_now}
use Rattle.prolly_build.proofs.run.writer.OpenFile.push.Goals as goal
use Rattle.prolly_build.proofs.run.writer.OpenFile.push.Goals.{else-is_top-via-then-is_top+else-self}
use Rattle.prolly_build.proofs.run.writer.OpenFile.push.Goals.{else-is_top-via-else-is_top}

pub returns-then-self : goal.returns-then-self
returns-then-self g c = λ head events old h. tall_now c.args.event.now h c.if-self.true
    (search rules)

pub returns-in-Err : goal.returns-in-Err
returns-in-Err g c = λ head events old h. failed_now c.args.event.now
    (has_level c.args.last_level c.args.event.now) h (
      refl,
      elim c.else-is_top.branch [
        | else-is_top-via-then-is_top+else-self w ↦
            (λ t. w.if-self.false)
        | else-is_top-via-else-is_top w ↦ (λ t. search rules)
      ],
    )
    (let same : length c.bytes.result.now ≡ length c.args.event.now.bytes
    = ap (λ (bytes : List ℕ). length bytes) c.bytes.ensures in omega (arith, same))
    (search rules) (search rules) (search rules)

pub returns-after-has_last_level : goal.returns-after-has_last_level
returns-after-has_last_level g c = grind (arith, common_steps) steps 2000000
