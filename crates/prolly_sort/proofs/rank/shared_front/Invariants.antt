use Rattle.std.proofs.Common.{◌≡◌, ◌+◌, drop, nat_eq}
use Rattle.std.specs.List.{common_prefix_len}
use Rattle.prolly_sort.proofs.rank.shared_front.Given as goal

abbrev pub invariant-loop-at : goal.invariant-loop-at
invariant-loop-at l = l.at + common_prefix_len nat_eq (drop l.at l.one) (drop l.at l.other) ≡
    common_prefix_len nat_eq l.one l.other
