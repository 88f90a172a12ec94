use Rattle.std.proofs.Common.{◌∙◌, subst, sym}
use Rattle.prolly_link.specs.Progress.{end_given}
use Rattle.prolly_merge.specs.Peeked.{place_after}
use Rattle.prolly_apply.specs.Applied.{IsVerdict}
use Rattle.prolly_apply.proofs.Ends.{all_received, module_ends, tells}
use Rattle.prolly_apply.proofs.stage.apply_stage.Goals as goal

pub returns : goal.returns
returns g c =
    let e = c.send_merged.ensures in
    let mid = c.send_merged.new.old in
    let last = c.receive_rest.new.input in
    let rest = c.receive_rest.ensures in
    let told = tells (g.C.Cut.cut c.args.cut) (g.L.In.received c.args.old mid)
    (g.L.In.received mid last) (g.L.In.received c.args.old last)
    (g.met.L.In.received_both c.args.old mid last e.follows rest.follows) (g.L.In.progress mid)
    (g.L.In.progress last) (λ ended. (
      g.met.L.In.ended_gives_nothing mid last rest.follows ended,
      g.met.L.In.ended_stays mid last rest.follows ended,
    )) (place_after g.I.In.received c.new-changes.result c.send_merged.new.changes)
    (g.I.In.received c.args.changes c.finish.result)
    (g.I.In.received c.send_merged.new.changes.input c.finish.result)
    (end_given (g.I.In.progress c.finish.result))
    (all_received g.I.In.link g.I.In.progress g.I.In.Follows g.I.In.received g.met.I.In.goes_on
    g.met.I.In.received_both c.args.changes c.new-changes.result c.send_merged.new.changes
    c.finish.result c.new-changes.ensures e.advances c.finish.ensures) c.finish.ensures.fits
    (g.O.Out.sent c.args.out) (g.O.Out.sent c.send_merged.new.out) c.send_merged.result
    (g.O.Out.end_sent c.close-out.result) c.verdict_of-end.result.1
    (g.O.Out.all_sent c.close-out.result) c.close-out.ensures.sent
    (subst (λ x. IsVerdict c.send_merged.result x c.verdict_of-end.result.1)
    (sym c.close-out.ensures.end) c.verdict_of-end.ensures) e.ok e.err in
    record {
      old = record {
        link_is = rest.link ∙ e.old_link;
        follows = g.met.L.In.goes_on c.args.old mid last e.follows rest.follows;
        ended = rest.ended;
      };
      changes = module_ends g.I.In.link g.I.In.progress g.I.In.Follows g.I.In.received
          g.met.I.In.goes_on c.args.changes c.new-changes.result c.send_merged.new.changes
          c.finish.result c.new-changes.ensures e.advances c.finish.ensures;
      out_link = c.close-out.ensures.link ∙ e.out_link;
      sends = told.sends;
      seen = told.seen;
      refused = told.wrong;
      clean = told.clean;
    }
