use Rattle.std.proofs.Common.{◌≡◌, length}
use Rattle.prolly_merge.specs.Peeked.{Advances}
use Rattle.prolly_apply.proofs.Steps.{PairsLoop}
use Rattle.prolly_apply.proofs.old_pairs.take_pairs.Given as goal

abbrev pub invariant-loop-key : goal.invariant-loop-key
invariant-loop-key g l = record {
  advances : Advances g.I.In.link g.I.In.progress g.I.In.Follows l.fn.changes l.changes;
  link : g.O.Out.link l.out ≡ g.O.Out.link l.fn.out;
  took : PairsLoop g.C.Cut.cut l.ends l.fn.pairs l.pairs l.fn.level l.level (g.O.Out.sent l.fn.out)
      (g.O.Out.sent l.out) l.fn.changes.head (g.I.In.received l.fn.changes.input l.changes.input)
      l.changes.head;
}

abbrev pub decreases-loop-key : goal.decreases-loop-key
decreases-loop-key g l = length l.pairs
