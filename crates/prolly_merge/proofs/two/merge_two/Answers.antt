use Rattle.std.proofs.Common.{[], ◌∷◌, ◌∙◌, subst}
use Rattle.prolly_entry.specs.Overlay.{AllRising}
use Rattle.prolly_tree.specs.Merge.{raw_merged_part}
use Rattle.prolly_merge.specs.Inputs.{lists_of, stop_end}
use Rattle.prolly_merge.specs.Peeked.{places_after}
use Rattle.prolly_merge.specs.Merged.{SendsAll}
use Rattle.prolly_merge.proofs.Places.{sends_records}
use Rattle.prolly_merge.proofs.Finishes.{are_finished, rest_of}
use Rattle.prolly_merge.proofs.two.merge_two.Goals as goal

pub returns : goal.returns
returns g c =
    let e = c.send_two-items.ensures in
    let es = c.args.left ∷ c.args.right ∷ [] in
    let os = c.new-left.result ∷ c.new-right.result ∷ [] in
    let ms = c.send_two-items.new.left ∷ c.send_two-items.new.right ∷ [] in
    let ns = c.finish.result ∷ c.finish-2.result ∷ [] in
    let all = are_finished g.I.In.link g.I.In.progress g.I.In.Follows g.I.In.received
    g.met.I.In.goes_on g.met.I.In.received_both es os ms ns
    (c.new-left.ensures, (c.new-right.ensures, tt)) e.advance
    (c.finish.ensures, (c.finish-2.ensures, tt)) in
    let sent = g.O.Out.sent c.args.out in
    let all_sent = g.O.Out.all_sent c.close-out.result in
    let end_sent = g.O.Out.end_sent c.close-out.result in
    record {
      left = all.ends.0;
      right = all.ends.1.0;
      out_link = c.close-out.ensures.link ∙ e.out_link;
      items = (e.items.0, c.close-out.ensures.sent ∙ e.items.1, e.items.2);
      merged = subst (λ is. AllRising (lists_of is) → SendsAll sent (raw_merged_part is) (stop_end is)
          all_sent end_sent) all.whole
          (sends_records (places_after g.I.In.received os ms) sent all_sent e.halts.0
          c.send_two-items.result.1 end_sent e.halts.2
          (c.close-out.ensures.sent ∙ e.halts.1) c.close-out.ensures.end
          (rest_of g.I.In.link g.I.In.progress g.I.In.Follows g.I.In.received ms ns) all.fits);
    }
