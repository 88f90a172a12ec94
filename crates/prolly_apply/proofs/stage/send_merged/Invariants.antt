use Rattle.std.proofs.Common.{◌≡◌}
use Rattle.prolly_merge.specs.Peeked.{Advances, place_after}
use Rattle.prolly_apply.specs.Cutting.{RestAreCut, Seen}
use Rattle.prolly_apply.specs.Taking.{Any, Took, pairs_of}
use Rattle.prolly_apply.proofs.stage.send_merged.Given as goal

abbrev pub invariant-loop : goal.invariant-loop
invariant-loop g l = record {
  old_link : g.L.In.link l.old ≡ g.L.In.link l.fn.old;
  follows : g.L.In.Follows l.fn.old l.old;
  advances : Advances g.I.In.link g.I.In.progress g.I.In.Follows l.fn.changes l.changes;
  out_link : g.O.Out.link l.out ≡ g.O.Out.link l.fn.out;
  seen : Seen (g.C.Cut.cut l.fn.cut) (g.L.In.received l.fn.old l.old) l.cutting;
  took : RestAreCut (g.C.Cut.cut l.fn.cut) (g.L.In.received l.fn.old l.old) →
      Took g.C.Cut.cut l.fn.cut (g.O.Out.sent l.fn.out) (pairs_of (g.L.In.received l.fn.old l.old))
      (place_after g.I.In.received l.fn.changes l.changes) Any l.level (g.O.Out.sent l.out);
}
