use Rattle.std.proofs.Common.{◌∙◌, ◌∷◌, [], ◌++◌, ap, refl, subst}
use Rattle.prolly_apply.specs.Taking.{IsCutAs, StopsInFront, TakesFront}
use Rattle.prolly_apply.proofs.Steps.{if_err, leaf_passes, leaf_refused, on_err}
use Rattle.prolly_apply.proofs.Steps.{on_ok, stops_memory}
use Rattle.prolly_apply.proofs.old_pairs.take_leaf.Goals as goal

pub returns-in_err-send_event : goal.returns-in_err-send_event
returns-in_err-send_event g c =
    let e = c.in_err-send_event.ensures in
    record {
      advances = record {
        link_is = refl;
        follows = g.met.I.In.stays c.args.changes.now.input;
        held = c.requires;
      };
      link = e.link;
      ok = on_err _ _ c.from_residual.ensures.0;
      err = stops_memory _ _ c.from_residual.ensures.1 (leaf_refused g.C.Cut.cut c.args.leaf
          c.args.ends c.args.level.now _ _ _ _
          (g.met.I.In.received_none c.args.changes.now.input) e.err);
    }

pub returns-then-passes : goal.returns-then-passes
returns-then-passes g c =
    let e = c.in_ok-send_event.ensures in
    let passes = c.passes.ensures.yes c.if-passes.true in
    record {
      advances = record {
        link_is = refl;
        follows = g.met.I.In.stays c.args.changes.now.input;
        held = c.requires;
      };
      link = e.link;
      ok = leaf_passes g.C.Cut.cut c.args.leaf c.args.ends c.args.level.now c.passes.new.level _ _ _ _
          (g.met.I.In.received_none c.args.changes.now.input) passes.0 passes.1 passes.2
          (e.ok ∙ ap (λ x. g.O.Out.sent c.args.out.now ++ x ∷ []) c.into_event.ensures);
      err = tt;
    }

pub returns : goal.returns
returns g c =
    let e = c.take_pairs.ensures in
    let same = c.passes.ensures.no c.if-passes.false in
    record {
      advances = e.advances;
      link = e.link;
      ok = on_ok c.take_pairs.result _ _ (λ t.
          subst (λ ps. TakesFront g.C.Cut.cut (IsCutAs c.args.ends ps) ps c.args.level.now
          c.take_pairs.new.level (g.O.Out.sent c.args.out.now) (g.O.Out.sent c.take_pairs.new.out)
          c.args.changes.now.head
          (g.I.In.received c.args.changes.now.input c.take_pairs.new.changes.input)
          c.take_pairs.new.changes.head) c.pairs.ensures
          (subst (λ l. TakesFront g.C.Cut.cut (IsCutAs c.args.ends c.pairs.result) c.pairs.result l
          c.take_pairs.new.level (g.O.Out.sent c.args.out.now) (g.O.Out.sent c.take_pairs.new.out)
          c.args.changes.now.head
          (g.I.In.received c.args.changes.now.input c.take_pairs.new.changes.input)
          c.take_pairs.new.changes.head) same t)) e.ok;
      err = if_err c.take_pairs.result _ _ (λ stop t.
          subst (λ ps. StopsInFront g.C.Cut.cut (IsCutAs c.args.ends ps) ps c.args.level.now
          (g.O.Out.sent c.args.out.now) stop (g.O.Out.sent c.take_pairs.new.out)
          c.args.changes.now.head
          (g.I.In.received c.args.changes.now.input c.take_pairs.new.changes.input)
          c.take_pairs.new.changes.head) c.pairs.ensures
          (subst (λ l. StopsInFront g.C.Cut.cut (IsCutAs c.args.ends c.pairs.result) c.pairs.result l
          (g.O.Out.sent c.args.out.now) stop (g.O.Out.sent c.take_pairs.new.out)
          c.args.changes.now.head
          (g.I.In.received c.args.changes.now.input c.take_pairs.new.changes.input)
          c.take_pairs.new.changes.head) same t)) e.err;
    }
