use Rattle.std.proofs.Common.{refl, ◌∙◌, subst}
use Rattle.prolly_apply.specs.declared.old_pairs.Standing.TheVariants as standings
use Rattle.prolly_stage.specs.StageStep.{SendsLeaf}
use Rattle.prolly_apply.specs.Taking.{IsDecided}
use Rattle.prolly_apply.proofs.Steps.{advances_on, change_refused, is_change, is_same_change, on_err}
use Rattle.prolly_apply.proofs.Steps.{pair_behind, pair_below, pair_failed, pair_init, pair_refused}
use Rattle.prolly_apply.proofs.Steps.{pair_same, stands_at, stops_memory}
use Rattle.prolly_apply.proofs.old_pairs.take_old_pair.Goals as goal

pub loop-init : goal.loop-init
loop-init g c = record {
  advances = record {
    link_is = refl;
    follows = g.met.I.In.stays c.args.changes.now.input;
    held = c.requires;
  };
  link = refl;
  pair = refl;
  took = pair_init g.C.Cut.cut c.args.pair c.args.level.now (g.O.Out.sent c.args.out.now)
      c.args.changes.now.head _ (g.met.I.In.received_none c.args.changes.now.input);
}

pub loop-preserved : goal.loop-preserved
loop-preserved g c =
    let i = c.loop.invariant in
    let e = c.in_ok-take_change-in-Below.ensures in
    record {
      advances = advances_on g.I.In.link g.I.In.progress g.I.In.Follows g.met.I.In.goes_on _ _ _
          i.advances e.advances;
      link = e.link ∙ i.link;
      pair = i.pair;
      took = pair_below g.C.Cut.cut c.args.pair _ _ _ _ _ _ _ _ _ _ _ _ i.took e.ok
          (stands_at c.key.result.now c.loop.pair c.args.pair
          c.loop.changes.head c.standing_of.result standings.Below c.standing_of.ensures
          c.key.ensures.key i.pair c.in-Below.is) e.got
          (g.met.I.In.received_both _ _ _ i.advances.follows e.advances.follows);
    }

pub returns-in_err-take_change-in-Below : goal.returns-in_err-take_change-in-Below
returns-in_err-take_change-in-Below g c =
    let i = c.loop.invariant in
    let e = c.in_err-take_change-in-Below.ensures in
    record {
      advances = advances_on g.I.In.link g.I.In.progress g.I.In.Follows g.met.I.In.goes_on _ _ _
          i.advances e.advances;
      link = e.link ∙ i.link;
      ok = on_err _ _ c.from_residual.ensures.0;
      err = stops_memory _ _ c.from_residual.ensures.1 (change_refused g.C.Cut.cut (IsDecided c.args.is_boundary c.args.pair) c.args.pair _ _ _ _ _ _ _ _ _ _ _ i.took (is_change c.args.pair.key c.loop.changes.head
          (stands_at c.key.result.now c.loop.pair c.args.pair
          c.loop.changes.head c.standing_of.result standings.Below c.standing_of.ensures
          c.key.ensures.key i.pair c.in-Below.is)) e.err
          (g.met.I.In.received_both _ _ _ i.advances.follows e.advances.follows));
    }

pub returns-in_err-take_change-in-Same : goal.returns-in_err-take_change-in-Same
returns-in_err-take_change-in-Same g c =
    let i = c.loop.invariant in
    let e = c.in_err-take_change-in-Same.ensures in
    record {
      advances = advances_on g.I.In.link g.I.In.progress g.I.In.Follows g.met.I.In.goes_on _ _ _
          i.advances e.advances;
      link = e.link ∙ i.link;
      ok = on_err _ _ c.from_residual-in_err-take_change-in-Same.ensures.0;
      err = stops_memory _ _ c.from_residual-in_err-take_change-in-Same.ensures.1 (change_refused g.C.Cut.cut (IsDecided c.args.is_boundary c.args.pair) c.args.pair _ _ _ _ _ _ _ _ _ _ _ i.took (is_same_change c.args.pair.key c.loop.changes.head
          (stands_at c.key.result.now c.loop.pair c.args.pair
          c.loop.changes.head c.standing_of.result standings.Same c.standing_of.ensures
          c.key.ensures.key i.pair c.in-Same.is)) e.err
          (g.met.I.In.received_both _ _ _ i.advances.follows e.advances.follows));
    }

pub returns-in-Same : goal.returns-in-Same
returns-in-Same g c =
    let i = c.loop.invariant in
    let e = c.in_ok-take_change-in-Same.ensures in
    record {
      advances = advances_on g.I.In.link g.I.In.progress g.I.In.Follows g.met.I.In.goes_on _ _ _
          i.advances e.advances;
      link = e.link ∙ i.link;
      ok = pair_same g.C.Cut.cut (IsDecided c.args.is_boundary c.args.pair) c.args.pair _ _ _ _ _ _ _ _ _ _ _ _ i.took e.ok
          (stands_at c.key.result.now c.loop.pair c.args.pair
          c.loop.changes.head c.standing_of.result standings.Same c.standing_of.ensures
          c.key.ensures.key i.pair c.in-Same.is) e.got
          (g.met.I.In.received_both _ _ _ i.advances.follows e.advances.follows);
      err = tt;
    }

pub returns-in_err-take_decided_pair-in-Behind : goal.returns-in_err-take_decided_pair-in-Behind
returns-in_err-take_decided_pair-in-Behind g c =
    let i = c.loop.invariant in
    let e = c.in_err-take_decided_pair-in-Behind.ensures in
    record {
      advances = i.advances;
      link = e.link ∙ i.link;
      ok = on_err _ _ c.from_residual-in_err-take_decided_pair-in-Behind.ensures.0;
      err = stops_memory _ _ c.from_residual-in_err-take_decided_pair-in-Behind.ensures.1 (pair_refused g.C.Cut.cut (IsDecided c.args.is_boundary c.args.pair) c.args.pair _ _ _ _ _ _ _ _ i.took e.err);
    }

pub returns-in-Behind : goal.returns-in-Behind
returns-in-Behind g c =
    let i = c.loop.invariant in
    let e = c.in_ok-take_decided_pair-in-Behind.ensures in
    record {
      advances = i.advances;
      link = e.link ∙ i.link;
      ok = pair_behind g.C.Cut.cut c.args.pair _ _ _ _ _ _ _ _ _ i.took c.args.is_boundary
          (subst (λ p. IsDecided c.args.is_boundary p (g.C.Cut.cut c.loop.level.cut) →
          SendsLeaf g.C.Cut.cut c.loop.level c.take_decided_pair.new.leaves p
          (g.O.Out.sent c.loop.out) (g.O.Out.sent c.take_decided_pair.new.out)) i.pair e.ok)
          (stands_at c.key.result.now c.loop.pair c.args.pair
          c.loop.changes.head c.standing_of.result standings.Behind c.standing_of.ensures
          c.key.ensures.key i.pair c.in-Behind.is);
      err = tt;
    }

pub returns-in-Failed : goal.returns-in-Failed
returns-in-Failed g c =
    let i = c.loop.invariant in
    record {
      advances = i.advances;
      link = i.link;
      ok = tt;
      err = pair_failed g.C.Cut.cut (IsDecided c.args.is_boundary c.args.pair) c.args.pair _ _ _ _ _ _ _ c.in-Failed.fault i.took
          (stands_at c.key.result.now c.loop.pair c.args.pair c.loop.changes.head
          c.standing_of.result (standings.Failed c.in-Failed.fault) c.standing_of.ensures
          c.key.ensures.key i.pair c.in-Failed.is);
    }
