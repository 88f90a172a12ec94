use Rattle.std.proofs.Common.{[], ◌∷◌, ◌++◌, inl, refl, sym, ap, ◌∙◌, subst, append_assoc}
use Rattle.std.proofs.lemmas.List.{append-nil}
use Rattle.std.specs.List.{flat_map}
use Rattle.prolly_merge.specs.Many.{NoneLeftOut, AllAlone}
use Rattle.prolly_merge.specs.Peeked.{peeked_of, places_after}
use Rattle.prolly_merge.proofs.Counts.{count_none, count_more}
use Rattle.prolly_merge.proofs.Places.{items_more}
use Rattle.prolly_merge.proofs.Steps.{all_stay, start, step_sends, step_advances, step_stops}
use Rattle.prolly_merge.proofs.Steps.{stop_advances}
use Rattle.prolly_merge.proofs.Alone.{start_whole, step_alone, step_stays_alone, step_sends_alone}
use Rattle.prolly_merge.proofs.Alone.{step_doubled, halts_refused}
use Rattle.prolly_merge.proofs.many.send_many.Goals as goal

pub loop-init : goal.loop-init
loop-init g c =
    let os = peeked_of c.args.inputs.now c.args.heads.now in
    record {
      advance = all_stay g.I.In.link g.I.In.progress g.I.In.Follows g.I.In.received g.met.I.In.stays
          g.met.I.In.received_none os c.requires.held;
      out_link = refl;
      items = count_none (g.O.Out.sent c.args.out.now);
      first = (
        [],
        sym (append-nil (g.O.Out.sent c.args.out.now)),
        start g.I.In.link g.I.In.progress g.I.In.Follows g.I.In.received g.met.I.In.stays
            g.met.I.In.received_none os,
        λ refused. start_whole g.I.In.link g.I.In.progress g.I.In.Follows g.I.In.received
            g.met.I.In.stays g.met.I.In.received_none os,
        λ refused fs fit rising. tt,
      );
    }

pub loop-preserved : goal.loop-preserved
loop-preserved g c =
    let i = c.loop.invariant in
    let os = peeked_of c.args.inputs.now c.args.heads.now in
    let ms = peeked_of c.loop.inputs c.loop.heads in
    let ns = peeked_of c.next_of_many.new.inputs c.next_of_many.new.heads in
    let r = c.in-Send.record in
    let sent = g.O.Out.sent c.args.out.now in
    let put = g.T.MergeItem.items_of r in
    let ok = c.in-Ok.ensures.sent in
    let next = step_sends g.I.In.link g.I.In.progress g.I.In.Follows g.I.In.received
    g.met.I.In.goes_on g.met.I.In.received_both os ms ns i.first.0 r i.advance i.first.2
    c.in-Send.ensures.0 in
    record {
      advance = step_advances g.I.In.link g.I.In.progress g.I.In.Follows g.I.In.received
          g.met.I.In.goes_on g.met.I.In.received_both os ms ns r i.advance c.in-Send.ensures.0;
      out_link = c.send_of.ensures.link ∙ i.out_link;
      items = count_more sent (g.O.Out.sent c.loop.out) (g.O.Out.sent c.send_of.new.out) put
          c.loop.items c.in-Ok.count i.items ok c.in-Ok.ensures.count;
      first = (
        i.first.0 ++ r ∷ [],
        ok ∙ ap (λ x. x ++ put) i.first.1 ∙ append_assoc sent (flat_map g.T.MergeItem.items_of i.first.0) put ∙
            ap (λ x. sent ++ x) (sym (items_more g.T.MergeItem.items_of i.first.0 r)),
        next,
        λ refused. step_alone g.I.In.link g.I.In.progress g.I.In.Follows g.I.In.received
            g.met.I.In.goes_on g.met.I.In.received_both os ms ns i.first.0 r i.advance i.first.2
            (i.first.3 refused) c.in-Send.ensures.0 (c.in-Send.ensures.1 refused),
        λ refused. step_sends_alone g.I.In.link g.I.In.progress g.I.In.Follows g.I.In.received
            g.met.I.In.goes_on g.met.I.In.received_both os ms ns i.first.0 r i.advance i.first.2
            (i.first.3 refused) (i.first.4 refused) c.in-Send.ensures.0
            (c.in-Send.ensures.1 refused) next,
      );
    }

pub returns-in-Err : goal.returns-in-Err
returns-in-Err g c =
    let i = c.loop.invariant in
    let os = peeked_of c.args.inputs.now c.args.heads.now in
    let ms = peeked_of c.loop.inputs c.loop.heads in
    let ns = peeked_of c.next_of_many.new.inputs c.next_of_many.new.heads in
    let r = c.in-Send.record in
    let refused = c.in-Err.ensures.refused in
    record {
      advance = step_advances g.I.In.link g.I.In.progress g.I.In.Follows g.I.In.received
          g.met.I.In.goes_on g.met.I.In.received_both os ms ns r i.advance c.in-Send.ensures.0;
      out_link = c.send_of.ensures.link ∙ i.out_link;
      items = (i.items.0, refused ∙ i.items.1, i.items.2);
      halts = (
        i.first.0,
        refused ∙ i.first.1,
        halts_refused c.args.shared (places_after g.I.In.received os ns) i.first.0 r
            (step_sends g.I.In.link g.I.In.progress g.I.In.Follows g.I.In.received
            g.met.I.In.goes_on g.met.I.In.received_both os ms ns i.first.0 r i.advance i.first.2
            c.in-Send.ensures.0)
            (λ shared. step_stays_alone g.I.In.link g.I.In.progress g.I.In.Follows g.I.In.received
            g.met.I.In.goes_on g.met.I.In.received_both os ms ns i.first.0 r i.advance
            (i.first.4 shared) c.in-Send.ensures.0),
      );
    }

pub returns-in-Stop : goal.returns-in-Stop
returns-in-Stop g c =
    let i = c.loop.invariant in
    let os = peeked_of c.args.inputs.now c.args.heads.now in
    let ms = peeked_of c.loop.inputs c.loop.heads in
    let ns = peeked_of c.next_of_many.new.inputs c.next_of_many.new.heads in
    record {
      advance = stop_advances g.I.In.link g.I.In.progress g.I.In.Follows g.I.In.received
          g.met.I.In.goes_on g.met.I.In.received_both os ms ns c.in-Stop.end i.advance
          c.in-Stop.ensures;
      out_link = i.out_link;
      items = i.items;
      halts = (
        i.first.0,
        i.first.1,
        (
          inl (step_stops g.I.In.link g.I.In.progress g.I.In.Follows g.I.In.received
              g.met.I.In.goes_on g.met.I.In.received_both os ms ns i.first.0 c.in-Stop.end
              i.advance i.first.2 c.in-Stop.ensures),
          λ refused clean. subst (λ ps. NoneLeftOut (places_after g.I.In.received os ps) i.first.0)
              (sym c.in-Stop.ensures.1) (i.first.3 refused),
          λ refused. subst (λ ps. AllAlone (places_after g.I.In.received os ps) i.first.0)
              (sym c.in-Stop.ensures.1) (i.first.4 refused),
        ),
      );
    }

pub returns-in-Refuse : goal.returns-in-Refuse
returns-in-Refuse g c =
    let i = c.loop.invariant in
    let os = peeked_of c.args.inputs.now c.args.heads.now in
    let ms = peeked_of c.loop.inputs c.loop.heads in
    let ns = peeked_of c.next_of_many.new.inputs c.next_of_many.new.heads in
    let d = c.in-Refuse.doubled in
    let e = c.in-Refuse.ensures in
    record {
      advance = step_advances g.I.In.link g.I.In.progress g.I.In.Follows g.I.In.received
          g.met.I.In.goes_on g.met.I.In.received_both os ms ns d.second i.advance e.1;
      out_link = i.out_link;
      items = i.items;
      halts = (
        i.first.0,
        i.first.1,
        (
          e.0,
          refl,
          step_sends g.I.In.link g.I.In.progress g.I.In.Follows g.I.In.received g.met.I.In.goes_on
              g.met.I.In.received_both os ms ns i.first.0 d.second i.advance i.first.2 e.1,
          step_doubled g.I.In.link g.I.In.progress g.I.In.Follows g.I.In.received
              g.met.I.In.goes_on g.met.I.In.received_both os ms ns i.first.0 d i.advance i.first.2
              (i.first.3 e.0) e.1 e.2,
          step_stays_alone g.I.In.link g.I.In.progress g.I.In.Follows g.I.In.received
              g.met.I.In.goes_on g.met.I.In.received_both os ms ns i.first.0 d.second i.advance
              (i.first.4 e.0) e.1,
        ),
      );
    }
