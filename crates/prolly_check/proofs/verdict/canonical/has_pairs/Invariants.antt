use Rattle.std.proofs.Common.{◌≡◌, drop}
use Rattle.std.specs.List.{flat_map}
use Rattle.prolly_look_up.specs.HeldPairs.{pairs_held}
use Rattle.prolly_check.proofs.verdict.canonical.has_pairs.Given as goal

abbrev pub invariant-loop-number : goal.invariant-loop-number
invariant-loop-number l = flat_map pairs_held (drop l.fn.from l.chunks) ≡
    flat_map pairs_held (drop l.number l.chunks)
