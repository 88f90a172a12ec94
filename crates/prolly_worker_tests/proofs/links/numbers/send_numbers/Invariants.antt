use Rattle.std.proofs.Common.{◌≡◌, ◌++◌}
use Rattle.std.specs.List.{range_with_len}
use Rattle.prolly_worker_tests.proofs.links.numbers.send_numbers.Given as goal

abbrev pub invariant-loop-number : goal.invariant-loop-number
invariant-loop-number g l = (g.O.Out.link l.out ≡ g.O.Out.link l.fn.out) ×
    (g.O.Out.sent l.out ≡ g.O.Out.sent l.fn.out ++ range_with_len 0 l.number)
