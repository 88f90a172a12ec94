use Rattle.std.proofs.Common.{◌∙◌, refl, subst}
use Rattle.prolly_apply.specs.Taking.{Comes}
use Rattle.prolly_apply.proofs.Steps.{advances_on, on_err, rest_failed_by, rest_init, rest_more}
use Rattle.prolly_apply.proofs.Steps.{rest_refused, stops_memory}
use Rattle.prolly_apply.proofs.old_pairs.take_rest.Goals as goal

pub loop-init : goal.loop-init
loop-init g c = record {
  advances = record {
    link_is = refl;
    follows = g.met.I.In.stays c.args.changes.now.input;
    held = c.requires;
  };
  link = refl;
  took = rest_init g.C.Cut.cut _ _ _ _ (g.met.I.In.received_none c.args.changes.now.input);
}

pub loop-preserved : goal.loop-preserved
loop-preserved g c =
    let i = c.loop.invariant in
    let e = c.in_ok-take_change-in-Change.ensures in
    record {
      advances = advances_on g.I.In.link g.I.In.progress g.I.In.Follows g.met.I.In.goes_on _ _ _
          i.advances e.advances;
      link = e.link ∙ i.link;
      took = rest_more g.C.Cut.cut _ _ _ _ _ _ _ _ _ _ _ _ i.took e.ok e.got
          (g.met.I.In.received_both _ _ _ i.advances.follows e.advances.follows);
    }

pub returns-in_err-take_change-in-Change : goal.returns-in_err-take_change-in-Change
returns-in_err-take_change-in-Change g c =
    let i = c.loop.invariant in
    let e = c.in_err-take_change-in-Change.ensures in
    record {
      advances = advances_on g.I.In.link g.I.In.progress g.I.In.Follows g.met.I.In.goes_on _ _ _
          i.advances e.advances;
      link = e.link ∙ i.link;
      ended = on_err _ _ c.from_residual.ensures.0;
      ok = on_err _ _ c.from_residual.ensures.0;
      err = stops_memory _ _ c.from_residual.ensures.1 (rest_refused g.C.Cut.cut _ _ _ _ _ _ _ _ _ _ _
          i.took (subst (Comes c.loop.changes.head) c.in-Change.is c.coming_of.ensures) e.err
          (g.met.I.In.received_both _ _ _ i.advances.follows e.advances.follows));
    }

pub returns-in-Clean : goal.returns-in-Clean
returns-in-Clean g c = record {
  advances = c.loop.invariant.advances;
  link = c.loop.invariant.link;
  ended = subst (Comes c.loop.changes.head) c.in-Clean.is c.coming_of.ensures;
  ok = c.loop.invariant.took;
  err = tt;
}

pub returns-in-Failed : goal.returns-in-Failed
returns-in-Failed g c =
    let i = c.loop.invariant in
    record {
      advances = i.advances;
      link = i.link;
      ended = tt;
      ok = tt;
      err = rest_failed_by g.C.Cut.cut _ _ _ _ _ _ _ c.in-Failed.fault i.took
          (subst (Comes c.loop.changes.head) c.in-Failed.is c.coming_of.ensures);
    }
