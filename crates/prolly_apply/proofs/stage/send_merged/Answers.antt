use Rattle.std.proofs.Common.{◌≡◌, ◌∙◌, [], ◌++◌, ap, append-nil, refl, rules, subst, sym}
use Rattle.std.proofs.lemmas.Result.{IfOk-from_err}
use Rattle.prolly_entry.specs.lemmas.Lists.{nothing_came}
use Rattle.prolly_link.specs.Progress.{HasEnded, end_given}
use Rattle.prolly_link.specs.declared.message.End.TheVariants.{Clean, Fault}
use Rattle.prolly_link.specs.declared.fault.RunFault.TheVariants.{Lost}
use Rattle.prolly_merge.specs.Head.{in_hand}
use Rattle.prolly_merge.specs.Peeked.{place_after}
use Rattle.prolly_apply.specs.Applied.{StopsAt}
use Rattle.prolly_apply.specs.Taking.{Any, Took, pairs_of}
use Rattle.prolly_stage.specs.lemmas.Steps.{ended_by}
use Rattle.prolly_apply.specs.Cutting.{Admits, Seen}
use Rattle.prolly_apply.specs.declared.stop.Stop.TheVariants as stops
use Rattle.prolly_apply.proofs.Cuttings.{seen_more, seen_none}
use Rattle.prolly_apply.proofs.Runs.{all_sent, begins_refused, last_refused, old_stops, place_moves}
use Rattle.prolly_apply.proofs.Runs.{rest_stops, run_more, run_refused, run_stops}
use Rattle.prolly_apply.proofs.Runs.{took_begins}
use Rattle.prolly_apply.proofs.Steps.{advances_on, got_nothing, stops_as, stops_memory}
use Rattle.prolly_apply.proofs.stage.send_merged.Goals as goal

pub returns-in_err-level : goal.returns-in_err-level
returns-in_err-level g c = record {
  old_link = refl;
  follows = g.met.L.In.stays c.args.old.now;
  advances = record {
    link_is = refl;
    follows = g.met.I.In.stays c.args.changes.now.input;
    held = c.requires;
  };
  out_link = refl;
  ok = IfOk-from_err _ _ c.from_residual.ensures.0;
  err = stops_memory _ _ c.from_residual.ensures.1 (begins_refused g.C.Cut.cut c.args.cut _ _ _ _
      (g.met.L.In.received_none c.args.old.now));
}

pub loop-init : goal.loop-init
loop-init g c =
    let none = g.met.L.In.received_none c.args.old.now in
    record {
      old_link = refl;
      follows = g.met.L.In.stays c.args.old.now;
      advances = record {
        link_is = refl;
        follows = g.met.I.In.stays c.args.changes.now.input;
        held = c.requires;
      };
      out_link = refl;
      seen = subst (λ ls. Seen (g.C.Cut.cut c.args.cut) ls c.new-cutting.result) (sym none)
          (seen_none (g.C.Cut.cut c.args.cut) c.new-cutting.result c.new-cutting.ensures.0
          c.new-cutting.ensures.1);
      took = λ rest. subst (λ ls. Took g.C.Cut.cut c.args.cut (g.O.Out.sent c.args.out.now)
          (pairs_of ls) (place_after g.I.In.received c.args.changes.now c.args.changes.now) Any
          c.in_ok-level.level (g.O.Out.sent c.args.out.now)) (sym none)
          (took_begins g.C.Cut.cut c.args.cut c.in_ok-level.level (g.O.Out.sent c.args.out.now)
          c.args.changes.now.head _ c.in_ok-level.ensures
          (ap (λ g. in_hand c.args.changes.now.head ++ g)
          (g.met.I.In.received_none c.args.changes.now.input)
          ∙ append-nil (in_hand c.args.changes.now.head)));
    }

pub returns-then-not-admits : goal.returns-then-not-admits
returns-then-not-admits g c =
    let i = c.loop.invariant in
    let both = g.met.L.In.received_both c.args.old.now c.loop.old c.recv.new.self i.follows
    c.in-Item.ensures.follows in
    let more = both ∙ ap (λ ls. g.L.In.received c.args.old.now c.loop.old ++ ls)
    c.in-Item.ensures.received in
    record {
      old_link = c.in-Item.ensures.link ∙ i.old_link;
      follows = g.met.L.In.goes_on c.args.old.now c.loop.old c.recv.new.self i.follows
          c.in-Item.ensures.follows;
      advances = i.advances;
      out_link = i.out_link;
      err = tt;
      ok = run_refused g.C.Cut.cut c.args.cut _ _ _ c.in-Item.leaf more
          (place_after g.I.In.received c.args.changes.now c.loop.changes)
          (place_after g.I.In.received c.args.changes.now c.loop.changes) []
          (sym (got_nothing (in_hand c.args.changes.now.head ++
          g.I.In.received c.args.changes.now.input c.loop.changes.input) [] c.loop.changes.head refl))
          c.loop.level c.loop.level (g.O.Out.sent c.loop.out) (g.O.Out.sent c.loop.out)
          c.loop.cutting c.admits.new.self i.seen i.took _
          (subst (Admits (g.C.Cut.cut c.args.cut) c.in-Item.leaf c.loop.cutting c.admits.new.self)
          c.if-not-admits.true c.admits.ensures);
    }

pub loop-preserved : goal.loop-preserved
loop-preserved g c =
    let i = c.loop.invariant in
    let e = c.in_ok-take_leaf-in-Item.ensures in
    let both = g.met.L.In.received_both c.args.old.now c.loop.old c.recv.new.self i.follows
    c.in-Item.ensures.follows in
    let more = both ∙ ap (λ ls. g.L.In.received c.args.old.now c.loop.old ++ ls)
    c.in-Item.ensures.received in
    let admitted = subst (Admits (g.C.Cut.cut c.args.cut) c.in-Item.leaf c.loop.cutting
    c.admits.new.self) c.if-not-admits.false c.admits.ensures in
    record {
      old_link = c.in-Item.ensures.link ∙ i.old_link;
      follows = g.met.L.In.goes_on c.args.old.now c.loop.old c.recv.new.self i.follows
          c.in-Item.ensures.follows;
      advances = advances_on g.I.In.link g.I.In.progress g.I.In.Follows g.met.I.In.goes_on _ _ _
          i.advances e.advances;
      out_link = e.link ∙ i.out_link;
      seen = subst (λ ls. Seen (g.C.Cut.cut c.args.cut) ls c.admits.new.self) (sym more)
          (seen_more (g.C.Cut.cut c.args.cut) _ c.in-Item.leaf c.loop.cutting c.admits.new.self i.seen
          admitted);
      took = run_more g.C.Cut.cut c.args.cut _ _ _ c.in-Item.leaf more _ _ _
          (place_moves _ _ _ _ _ (g.met.I.In.received_both _ _ _ i.advances.follows
          e.advances.follows)) _ _ _ _ c.loop.cutting c.admits.new.self i.seen i.took c.has_ended-ends.result
          admitted c.has_ended-ends.ensures e.ok;
    }

pub returns-in_err-take_leaf-in-Item : goal.returns-in_err-take_leaf-in-Item
returns-in_err-take_leaf-in-Item g c =
    let i = c.loop.invariant in
    let e = c.in_err-take_leaf-in-Item.ensures in
    let both = g.met.L.In.received_both c.args.old.now c.loop.old c.recv.new.self i.follows
    c.in-Item.ensures.follows in
    let more = both ∙ ap (λ ls. g.L.In.received c.args.old.now c.loop.old ++ ls)
    c.in-Item.ensures.received in
    let admitted = subst (Admits (g.C.Cut.cut c.args.cut) c.in-Item.leaf c.loop.cutting
    c.admits.new.self) c.if-not-admits.false c.admits.ensures in
    record {
      old_link = c.in-Item.ensures.link ∙ i.old_link;
      follows = g.met.L.In.goes_on c.args.old.now c.loop.old c.recv.new.self i.follows
          c.in-Item.ensures.follows;
      advances = advances_on g.I.In.link g.I.In.progress g.I.In.Follows g.met.I.In.goes_on _ _ _
          i.advances e.advances;
      out_link = e.link ∙ i.out_link;
      ok = IfOk-from_err _ _ c.from_residual-in_err-take_leaf-in-Item.ensures.0;
      err = stops_as _ _ _ c.from_residual-in_err-take_leaf-in-Item.ensures.1
          (run_stops g.C.Cut.cut c.args.cut _ _ _ c.in-Item.leaf more _ _ _
          (place_moves _ _ _ _ _ (g.met.I.In.received_both _ _ _ i.advances.follows
          e.advances.follows)) _ c.take_leaf.new.level _ _ c.loop.cutting c.admits.new.self i.seen
          i.took c.has_ended-ends.result _ _ admitted c.has_ended-ends.ensures e.err);
    }

pub returns-in_err-take_rest-in-End-Clean : goal.returns-in_err-take_rest-in-End-Clean
returns-in_err-take_rest-in-End-Clean g c =
    let i = c.loop.invariant in
    let e = c.in_err-take_rest-in-End-Clean.ensures in
    let both = g.met.L.In.received_both c.args.old.now c.loop.old c.recv.new.self i.follows
    c.in-End-Clean.ensures.follows in
    let ended : HasEnded (g.L.In.progress c.recv.new.self) ×
    (end_given (g.L.In.progress c.recv.new.self) ≡ Clean) =
    search (rules, c.in-End-Clean.ensures.progress) in
    record {
      old_link = c.in-End-Clean.ensures.link ∙ i.old_link;
      follows = g.met.L.In.goes_on c.args.old.now c.loop.old c.recv.new.self i.follows
          c.in-End-Clean.ensures.follows;
      advances = advances_on g.I.In.link g.I.In.progress g.I.In.Follows g.met.I.In.goes_on _ _ _
          i.advances e.advances;
      out_link = e.link ∙ i.out_link;
      ok = IfOk-from_err _ _ c.from_residual-in_err-take_rest-in-End-Clean.ensures.0;
      err = stops_as _ _ _ c.from_residual-in_err-take_rest-in-End-Clean.ensures.1
          (rest_stops g.C.Cut.cut c.args.cut _ _ _ (nothing_came _ _ _ both
          c.in-End-Clean.ensures.received) _ Clean ended.0 ended.1 _ _ _ i.took _ _
          (place_moves _ _ _ _ _ (g.met.I.In.received_both _ _ _ i.advances.follows
          e.advances.follows)) c.take_rest.new.level _ refl _ e.err);
    }

pub returns-in_err-send_closed-in-End-Clean : goal.returns-in_err-send_closed-in-End-Clean
returns-in_err-send_closed-in-End-Clean g c =
    let i = c.loop.invariant in
    let e = c.in_ok-take_rest-in-End-Clean.ensures in
    let s = c.in_err-send_closed-in-End-Clean.ensures in
    let both = g.met.L.In.received_both c.args.old.now c.loop.old c.recv.new.self i.follows
    c.in-End-Clean.ensures.follows in
    let ended : HasEnded (g.L.In.progress c.recv.new.self) ×
    (end_given (g.L.In.progress c.recv.new.self) ≡ Clean) =
    search (rules, c.in-End-Clean.ensures.progress) in
    record {
      old_link = c.in-End-Clean.ensures.link ∙ i.old_link;
      follows = g.met.L.In.goes_on c.args.old.now c.loop.old c.recv.new.self i.follows
          c.in-End-Clean.ensures.follows;
      advances = advances_on g.I.In.link g.I.In.progress g.I.In.Follows g.met.I.In.goes_on _ _ _
          i.advances e.advances;
      out_link = s.link ∙ e.link ∙ i.out_link;
      ok = IfOk-from_err _ _ c.from_residual-in_err-send_closed-in-End-Clean.ensures.0;
      err = stops_memory _ _ c.from_residual-in_err-send_closed-in-End-Clean.ensures.1
          (last_refused g.C.Cut.cut c.args.cut _ _ _ (nothing_came _ _ _ both c.in-End-Clean.ensures.received) _ Clean ended.0 ended.1 _
          _ _ i.took _ _ (place_moves _ _ _ _ _ (g.met.I.In.received_both _ _ _ i.advances.follows
          e.advances.follows)) _ _ refl e.ok _ s.err);
    }

pub returns-in-End-Clean : goal.returns-in-End-Clean
returns-in-End-Clean g c =
    let i = c.loop.invariant in
    let e = c.in_ok-take_rest-in-End-Clean.ensures in
    let s = c.in_ok-send_closed-in-End-Clean.ensures in
    let both = g.met.L.In.received_both c.args.old.now c.loop.old c.recv.new.self i.follows
    c.in-End-Clean.ensures.follows in
    let ended : HasEnded (g.L.In.progress c.recv.new.self) ×
    (end_given (g.L.In.progress c.recv.new.self) ≡ Clean) =
    search (rules, c.in-End-Clean.ensures.progress) in
    record {
      old_link = c.in-End-Clean.ensures.link ∙ i.old_link;
      follows = g.met.L.In.goes_on c.args.old.now c.loop.old c.recv.new.self i.follows
          c.in-End-Clean.ensures.follows;
      advances = advances_on g.I.In.link g.I.In.progress g.I.In.Follows g.met.I.In.goes_on _ _ _
          i.advances e.advances;
      out_link = s.link ∙ e.link ∙ i.out_link;
      ok = all_sent g.C.Cut.cut c.args.cut _ _ _ (nothing_came _ _ _ both c.in-End-Clean.ensures.received) _ Clean ended.0 ended.1 _
          _ _ i.took _ _ (place_moves _ _ _ _ _ (g.met.I.In.received_both _ _ _ i.advances.follows
          e.advances.follows)) _ _ refl e.ok c.loop.cutting _ _ i.seen e.ended
          c.finish.ensures s.ok;
      err = tt;
    }

pub returns-in-End-Fault : goal.returns-in-End-Fault
returns-in-End-Fault g c =
    let i = c.loop.invariant in
    let both = g.met.L.In.received_both c.args.old.now c.loop.old c.recv.new.self i.follows
    c.in-End-Fault.ensures.follows in
    let ended : HasEnded (g.L.In.progress c.recv.new.self) ×
    (end_given (g.L.In.progress c.recv.new.self) ≡ Fault c.in-End-Fault.fault) =
    search (rules, c.in-End-Fault.ensures.progress) in
    record {
      old_link = c.in-End-Fault.ensures.link ∙ i.old_link;
      follows = g.met.L.In.goes_on c.args.old.now c.loop.old c.recv.new.self i.follows
          c.in-End-Fault.ensures.follows;
      advances = i.advances;
      out_link = i.out_link;
      ok = tt;
      err = subst (λ f. StopsAt (g.C.Cut.cut c.args.cut)
          (g.L.In.received c.args.old.now c.recv.new.self) (g.L.In.progress c.recv.new.self)
          (place_after g.I.In.received c.args.changes.now c.loop.changes)
          (g.O.Out.sent c.args.out.now) (stops.Fault f) (g.O.Out.sent c.loop.out))
          (sym c.in-End-Fault.fault-is)
          (old_stops g.C.Cut.cut c.args.cut _ _ _ (nothing_came _ _ _ both
          c.in-End-Fault.ensures.received) _ (Fault c.in-End-Fault.fault) ended.0 ended.1 _ _ _ i.took
          c.in-End-Fault.fault refl);
    }

pub returns-in-Lost : goal.returns-in-Lost
returns-in-Lost g c =
    let i = c.loop.invariant in
    let both = g.met.L.In.received_both c.args.old.now c.loop.old c.recv.new.self i.follows
    c.in-Lost.ensures.follows in
    let ended : HasEnded (g.L.In.progress c.recv.new.self) ×
    (end_given (g.L.In.progress c.recv.new.self) ≡ Fault Lost) =
    ended_by _ _ c.in-Lost.ensures.progress tt in
    record {
      old_link = c.in-Lost.ensures.link ∙ i.old_link;
      follows = g.met.L.In.goes_on c.args.old.now c.loop.old c.recv.new.self i.follows
          c.in-Lost.ensures.follows;
      advances = i.advances;
      out_link = i.out_link;
      ok = tt;
      err = old_stops g.C.Cut.cut c.args.cut _ _ _ (nothing_came _ _ _ both c.in-Lost.ensures.received) _
          (Fault Lost) ended.0 ended.1 _ _ _ i.took Lost refl;
    }
