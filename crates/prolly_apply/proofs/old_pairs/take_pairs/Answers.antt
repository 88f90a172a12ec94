use Rattle.std.proofs.Common.{◌∷◌, ◌∙◌, ap, refl, sym}
use Rattle.prolly_apply.proofs.Steps.{advances_on, on_err, pairs_all, pairs_init, pairs_more}
use Rattle.prolly_apply.proofs.Steps.{pairs_refused, pairs_stop, stops_as, stops_memory}
use Rattle.prolly_apply.proofs.old_pairs.take_pairs.Goals as goal

pub loop-key-init : goal.loop-key-init
loop-key-init g c = record {
  advances = record {
    link_is = refl;
    follows = g.met.I.In.stays c.args.changes.now.input;
    held = c.requires;
  };
  link = refl;
  took = pairs_init g.C.Cut.cut c.args.ends _ _ _ _ _ (g.met.I.In.received_none c.args.changes.now.input);
}

pub loop-key-preserved : goal.loop-key-preserved
loop-key-preserved g c =
    let i = c.loop-key.invariant in
    let e = c.in_ok-take_old_pair.ensures in
    record {
      advances = advances_on g.I.In.link g.I.In.progress g.I.In.Follows g.met.I.In.goes_on _ _ _
          i.advances e.advances;
      link = e.link ∙ i.link;
      took = pairs_more g.C.Cut.cut c.args.ends _ _ _ c.in_ok-pair.pair _ _ _ _ _ _ _ _ _ _ _ _ _ i.took
          (c.in-Some.ensures.next ∙ ap (λ p. p ∷ c.next.new.self) (sym c.in_ok-pair.ensures))
          c.closes_leaf-is_boundary.ensures e.ok
          (g.met.I.In.received_both _ _ _ i.advances.follows e.advances.follows);
    }

pub returns-in_err-pair : goal.returns-in_err-pair
returns-in_err-pair g c =
    let i = c.loop-key.invariant in
    record {
      advances = i.advances;
      link = i.link;
      ok = on_err _ _ c.from_residual.ensures.0;
      err = stops_memory _ _ c.from_residual.ensures.1
          (pairs_refused g.C.Cut.cut c.args.ends _ _ _ _ _ _ _ _ _ i.took);
    }

pub returns-in_err-take_old_pair : goal.returns-in_err-take_old_pair
returns-in_err-take_old_pair g c =
    let i = c.loop-key.invariant in
    let e = c.in_err-take_old_pair.ensures in
    record {
      advances = advances_on g.I.In.link g.I.In.progress g.I.In.Follows g.met.I.In.goes_on _ _ _
          i.advances e.advances;
      link = e.link ∙ i.link;
      ok = on_err _ _ c.from_residual-in_err-take_old_pair.ensures.0;
      err = stops_as _ _ _ c.from_residual-in_err-take_old_pair.ensures.1
          (pairs_stop g.C.Cut.cut c.args.ends _ _ _ c.in_ok-pair.pair _ _ _ _ _ _ _ _ _ _ _ _ _ i.took
          (c.in-Some.ensures.next ∙ ap (λ p. p ∷ c.next.new.self) (sym c.in_ok-pair.ensures))
          c.closes_leaf-is_boundary.ensures e.err
          (g.met.I.In.received_both _ _ _ i.advances.follows e.advances.follows));
    }

pub returns : goal.returns
returns g c =
    let i = c.loop-key.invariant in
    record {
      advances = i.advances;
      link = i.link;
      ok = pairs_all g.C.Cut.cut c.args.ends _ _ _ _ _ _ _ _ _ i.took c.in_default.ensures.next;
      err = tt;
    }
