use Rattle.std.proofs.Common.{◌≡◌, sym, ◌∙◌, subst, arith}
use Rattle.prolly_entry.specs.Overlay.{AllRising}
use Rattle.std.specs.List.{flat_map}
use Rattle.prolly_merge.specs.Each.{Each}
use Rattle.prolly_merge.specs.Inputs.{inputs_of, lists_of}
use Rattle.prolly_merge.specs.Peeked.{peeked_of, AllHeld, places_after, Opens, Finishes}
use Rattle.prolly_merge.specs.Many.{SendsMany}
use Rattle.prolly_merge.proofs.Peeks.{written}
use Rattle.prolly_merge.proofs.Alone.{sends_none, sends_many}
use Rattle.prolly_merge.proofs.Finishes.{open_held, advance_held, rest_of, are_finished}
use Rattle.prolly_merge.proofs.many.merge_all.Goals as goal

pub returns-in_default-clause-merged : goal.returns-in_default-clause-merged
returns-in_default-clause-merged g c = λ rising.
    sends_none g.T.MergeItem.items_of c.args.shared (g.O.Out.sent c.args.out)
    (g.O.Out.all_sent c.close-out.result) (g.O.Out.end_sent c.close-out.result)
    c.close-out.ensures.sent c.close-out.ensures.end
    (inputs_of g.I.In.progress g.I.In.received c.args.inputs.now c.receive_rests.new.inputs)

pub send_many-items-requires-clause-held : goal.send_many-items-requires-clause-held
send_many-items-requires-clause-held g c =
    let ns = c.receive_heads.new.inputs in
    subst (λ hs. AllHeld g.I.In.progress (peeked_of ns hs)) (sym c.deref_mut.ensures.value)
    (open_held g.I.In.link g.I.In.progress g.I.In.Follows g.I.In.received c.args.inputs.now
    (peeked_of ns c.in-Some.heads.items) c.in-Some.ensures.opened)

pub finish_all-requires-clause-held : goal.finish_all-requires-clause-held
finish_all-requires-clause-held g c =
    let os = peeked_of c.receive_heads.new.inputs c.deref_mut.result.now in
    let ns = c.send_many-items.new.inputs in
    let hs = c.send_many-items.new.heads in
    let same : c.deref.result.now ≡ hs =
    c.deref.ensures.value ∙ written hs c.in-Some.heads.items c.in-Some.heads.len
    (omega (arith, c.send_many-items.auto.heads, c.deref_mut.ensures.len)) in
    subst (λ xs. AllHeld g.I.In.progress (peeked_of ns xs)) (sym same)
    (advance_held g.I.In.link g.I.In.progress g.I.In.Follows g.I.In.received os (peeked_of ns hs)
    c.send_many-items.ensures.advance)

pub returns : goal.returns
returns g c =
    let es = c.args.inputs.now in
    let first = c.receive_heads.new.inputs in
    let os = peeked_of first c.deref_mut.result.now in
    let mids = c.send_many-items.new.inputs in
    let hs = c.send_many-items.new.heads in
    let ms = peeked_of mids hs in
    let ns = c.finish_all.new.inputs in
    let e = c.send_many-items.ensures in
    let closed = c.close-out-2.ensures in
    let sent = g.O.Out.all_sent c.close-out-2.result in
    let end_sent = g.O.Out.end_sent c.close-out-2.result in
    let same : c.deref.result.now ≡ hs =
    c.deref.ensures.value ∙ written hs c.in-Some.heads.items c.in-Some.heads.len
    (omega (arith, c.send_many-items.auto.heads, c.deref_mut.ensures.len)) in
    let opened : Each (Opens g.I.In.link g.I.In.progress g.I.In.Follows g.I.In.received) es os =
    subst (λ xs. Each (Opens g.I.In.link g.I.In.progress g.I.In.Follows g.I.In.received) es
    (peeked_of first xs)) (sym c.deref_mut.ensures.value) c.in-Some.ensures.opened in
    let finished : Each (Finishes g.I.In.link g.I.In.progress g.I.In.Follows g.I.In.received) ms ns
    =
    subst (λ xs. Each (Finishes g.I.In.link g.I.In.progress g.I.In.Follows g.I.In.received)
    (peeked_of mids xs) ns) same c.finish_all.ensures in
    let all = are_finished g.I.In.link g.I.In.progress g.I.In.Follows g.I.In.received
    g.met.I.In.goes_on g.met.I.In.received_both es os ms ns opened e.advance finished in
    record {
      inputs = all.ends;
      out_link = closed.link ∙ e.out_link;
      items = (e.items.0, closed.sent ∙ e.items.1, e.items.2);
      merged = subst (λ is. AllRising (lists_of is) → SendsMany (flat_map g.T.MergeItem.items_of)
          c.args.shared (g.O.Out.sent c.args.out) is c.send_many-items.result.2 sent end_sent)
          all.whole
          (sends_many g.T.MergeItem.items_of c.args.shared (places_after g.I.In.received os ms)
          (g.O.Out.sent c.args.out) sent e.halts.0 c.send_many-items.result.1 end_sent
          c.send_many-items.result.2 e.halts.2 (closed.sent ∙ e.halts.1) closed.end
          (rest_of g.I.In.link g.I.In.progress g.I.In.Follows g.I.In.received ms ns) all.fits);
    }
