use Rattle.std.proofs.lemmas.Grind.{common_steps}
use Rattle.std.proofs.Common.{◌≡◌, ◌-◌, ◌∙◌, ap, length, sym, subst, arith}
use Rattle.std.proofs.lemmas.List.{length-map}
use Rattle.prolly_check.specs.Numbers.{at_level}
use Rattle.prolly_check.proofs.TreeNumbers.{size_within, sizes_sum, IsTower, all_levels, is_tower}
use Rattle.prolly_check.proofs.TreeNumbers.{one_more}
use Rattle.prolly_check.proofs.numbers.levels_in.Goals as goal

pub numbers_of-requires-clause-some : goal.numbers_of-requires-clause-some
numbers_of-requires-clause-some c =
    let chunks = c.args.chunks.now in
    let tower = is_tower chunks (c.len-root.result - 1) c.level-number-end.result c.requires.tree
    (ap (λ n. n - 1) c.len-root.ensures) c.level-number-end.ensures in
    let some = tower.some c.loop-number.number (omega arith) in
    omega (
      arith,
      ap length c.in_ok-sizes.ensures,
      length-map (at_level c.loop-number.number chunks) length,
    )

pub numbers_of-requires-clause-small : goal.numbers_of-requires-clause-small
numbers_of-requires-clause-small c = grind (arith, size_within, sizes_sum)

pub loop-number-preserved : goal.loop-number-preserved
loop-number-preserved c = grind (arith, common_steps, one_more)

pub returns : goal.returns
returns c =
    let chunks = c.args.chunks.now in
    let top = c.level-number-end.result in
    let number = c.loop-number.number in
    let tower = is_tower chunks (c.len-root.result - 1) top c.requires.tree
    (ap (λ n. n - 1) c.len-root.ensures) c.level-number-end.ensures in
    elim c.loop-number-test.branch [
      | goal.else-loop-number-test w ↦ absurd (omega arith)
      | goal.then-loop-number-test+in_ok-sizes+in_ok-push+else-number-number-end w ↦
          let last : number ≡ top = omega arith in
          all_levels chunks number c.loop-number-test.levels.items
          (subst (IsTower chunks) (sym last) tower)
          (one_more chunks number c.loop-number.levels.items c.loop-number-test.levels.items
          w.numbers_of.result (ap (λ levels. levels.items) w.levels-is ∙ w.in_ok-push.ensures.items)
          c.loop-number.invariant
          (w.numbers_of.ensures (at_level number chunks) (sym w.in_ok-sizes.ensures)))
    ]
