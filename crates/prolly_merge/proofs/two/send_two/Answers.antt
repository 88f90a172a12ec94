use Rattle.std.proofs.Common.{[], ◌∷◌, ◌++◌, inl, inr, refl, sym, ap, ◌∙◌, append_assoc}
use Rattle.std.proofs.lemmas.List.{append-nil}
use Rattle.prolly_merge.proofs.Counts.{count_none, count_more}
use Rattle.prolly_merge.proofs.Steps.{start, step_sends, step_advances, step_stops, stop_advances}
use Rattle.prolly_merge.proofs.two.send_two.Goals as goal

pub loop-init : goal.loop-init
loop-init g c =
    let l = c.args.left.now in
    let r = c.args.right.now in
    record {
      advance = (
        record { link_is = refl; follows = g.met.I.In.stays l.input; held = c.requires.left },
        (
          record { link_is = refl; follows = g.met.I.In.stays r.input; held = c.requires.right },
          tt,
        ),
      );
      out_link = refl;
      items = count_none (g.O.Out.sent c.args.out.now);
      first = (
        [],
        sym (append-nil (g.O.Out.sent c.args.out.now)),
        start g.I.In.link g.I.In.progress g.I.In.Follows g.I.In.received g.met.I.In.stays
            g.met.I.In.received_none (l ∷ r ∷ []),
      );
    }

pub loop-preserved : goal.loop-preserved
loop-preserved g c =
    let i = c.loop.invariant in
    let os = c.args.left.now ∷ c.args.right.now ∷ [] in
    let ms = c.loop.left ∷ c.loop.right ∷ [] in
    let ns = c.next_of_two.new.left ∷ c.next_of_two.new.right ∷ [] in
    let ok = c.in_default.ensures.ok in
    let r = c.in-Send.record in
    let sent = g.O.Out.sent c.args.out.now in
    record {
      advance = step_advances g.I.In.link g.I.In.progress g.I.In.Follows g.I.In.received
          g.met.I.In.goes_on g.met.I.In.received_both os ms ns r i.advance c.in-Send.ensures;
      out_link = c.send_sized.ensures.link ∙ i.out_link;
      items = count_more sent (g.O.Out.sent c.loop.out) (g.O.Out.sent c.send_sized.new.self)
          (r ∷ []) c.loop.items c.saturating_add-items.result i.items ok
          c.saturating_add-items.ensures;
      first = (
        i.first.0 ++ r ∷ [],
        ok ∙ ap (λ x. x ++ r ∷ []) i.first.1 ∙ append_assoc sent i.first.0 (r ∷ []),
        step_sends g.I.In.link g.I.In.progress g.I.In.Follows g.I.In.received g.met.I.In.goes_on
            g.met.I.In.received_both os ms ns i.first.0 r i.advance i.first.2 c.in-Send.ensures,
      );
    }

pub returns-in-Err : goal.returns-in-Err
returns-in-Err g c =
    let i = c.loop.invariant in
    let os = c.args.left.now ∷ c.args.right.now ∷ [] in
    let ms = c.loop.left ∷ c.loop.right ∷ [] in
    let ns = c.next_of_two.new.left ∷ c.next_of_two.new.right ∷ [] in
    let r = c.in-Send.record in
    let refused = c.in-Err.ensures.err.1 in
    record {
      advance = step_advances g.I.In.link g.I.In.progress g.I.In.Follows g.I.In.received
          g.met.I.In.goes_on g.met.I.In.received_both os ms ns r i.advance c.in-Send.ensures;
      out_link = c.send_sized.ensures.link ∙ i.out_link;
      items = (i.items.0, refused ∙ i.items.1, i.items.2);
      halts = (
        i.first.0,
        refused ∙ i.first.1,
        inr (
          refl,
          (
            r ∷ [],
            step_sends g.I.In.link g.I.In.progress g.I.In.Follows g.I.In.received
                g.met.I.In.goes_on g.met.I.In.received_both os ms ns i.first.0 r i.advance
                i.first.2 c.in-Send.ensures,
          ),
        ),
      );
    }

pub returns-in-Stop : goal.returns-in-Stop
returns-in-Stop g c =
    let i = c.loop.invariant in
    let os = c.args.left.now ∷ c.args.right.now ∷ [] in
    let ms = c.loop.left ∷ c.loop.right ∷ [] in
    let ns = c.next_of_two.new.left ∷ c.next_of_two.new.right ∷ [] in
    record {
      advance = stop_advances g.I.In.link g.I.In.progress g.I.In.Follows g.I.In.received
          g.met.I.In.goes_on g.met.I.In.received_both os ms ns c.in-Stop.end i.advance
          c.in-Stop.ensures;
      out_link = i.out_link;
      items = i.items;
      halts = (
        i.first.0,
        i.first.1,
        inl (step_stops g.I.In.link g.I.In.progress g.I.In.Follows g.I.In.received
            g.met.I.In.goes_on g.met.I.In.received_both os ms ns i.first.0 c.in-Stop.end i.advance
            i.first.2 c.in-Stop.ensures),
      );
    }
