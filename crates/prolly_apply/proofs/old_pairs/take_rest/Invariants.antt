use Rattle.std.proofs.Common.{◌≡◌}
use Rattle.prolly_merge.specs.Peeked.{Advances}
use Rattle.prolly_apply.specs.Taking.{TakesRest}
use Rattle.prolly_apply.proofs.old_pairs.take_rest.Given as goal

abbrev pub invariant-loop : goal.invariant-loop
invariant-loop g l = record {
  advances : Advances g.I.In.link g.I.In.progress g.I.In.Follows l.fn.changes l.changes;
  link : g.O.Out.link l.out ≡ g.O.Out.link l.fn.out;
  took : TakesRest g.C.Cut.cut l.fn.level l.level (g.O.Out.sent l.fn.out) (g.O.Out.sent l.out)
      l.fn.changes.head (g.I.In.received l.fn.changes.input l.changes.input) l.changes.head;
}
