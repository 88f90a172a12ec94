use Rattle.std.proofs.Common.{ap, arith, take}
use Rattle.prolly_sort.proofs.Ranking.{nothing_more}
use Rattle.prolly_sort.proofs.rank.shared_front.Goals as goal

pub returns : goal.returns
returns c =
    let one = c.args.one.now in
    let ends = nothing_more one c.args.other.now c.loop-at.at (omega (arith, c.min-len.ensures)) in
    ap (λ n. take n one) (omega (arith, c.loop-at.invariant, ends))
