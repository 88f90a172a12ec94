use Rattle.std.proofs.Common.{◌≡◌, arith, get_or, refl, rules}
use Rattle.prolly_sort.proofs.Prefixes.{all_bytes, pushed, pushed_fits}
use Rattle.prolly_sort.proofs.place.prefix_of.Goals as goal

pub loop-at-init : goal.loop-at-init
loop-at-init c = refl

pub overflow_mul-prefix : goal.overflow_mul-prefix
overflow_mul-prefix c =
    let bytes = c.args.bytes.now in
    omega (
      arith,
      pushed_fits bytes c.loop-at.at c.loop-at.prefix (get_or bytes c.loop-at.at 0)
          c.loop-at.invariant refl (all_bytes bytes (λ k. omega (arith, c.type_inv.bytes k))) (omega arith),
    )

pub overflow_add-prefix : goal.overflow_add-prefix
overflow_add-prefix c =
    let bytes = c.args.bytes.now in
    let is : c.from.result ≡ get_or bytes c.loop-at.at 0 = search rules in
    omega (
      arith,
      pushed_fits bytes c.loop-at.at c.loop-at.prefix c.from.result c.loop-at.invariant is
          (all_bytes bytes (λ k. omega (arith, c.type_inv.bytes k))) (omega arith),
    )

pub loop-at-preserved : goal.loop-at-preserved
loop-at-preserved c =
    let bytes = c.args.bytes.now in
    let is : c.from.result ≡ get_or bytes c.loop-at.at 0 = search rules in
    pushed bytes c.loop-at.at c.loop-at.prefix c.from.result c.loop-at.invariant is
