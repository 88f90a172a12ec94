use Rattle.std.proofs.Common.{get_or, sym, ap, ◌∙◌, subst}
use Rattle.std.proofs.lemmas.Option.{slice_get-get_or}
use Rattle.prolly_merge.specs.Head.{in_hand, IsHeld}
use Rattle.prolly_merge.proofs.Peeks.{peeked, peeked_get, peeked_set}
use Rattle.prolly_merge.proofs.round.next_of.Goals as goal

pub returns : goal.returns
returns g c =
    let ns = c.args.inputs.now in
    let hs = c.args.heads.now in
    let n = get_or ns c.args.at c.index-inputs-at.result in
    let h = get_or hs c.args.at c.index-heads-at.result in
    let n' = c.receive-next.new.input in
    let h' = c.replace.new.dest in
    let e = c.receive-next.ensures in (
      peeked n h,
      peeked n' h',
      peeked_get ns hs c.args.at n h (slice_get-get_or ns c.args.at c.index-inputs-at.result
          c.requires.input) (slice_get-get_or hs c.args.at c.index-heads-at.result c.requires.head),
      peeked_set ns hs c.args.at n' h',
      c.replace.ensures.value,
      record {
        link_is = e.link;
        follows = e.follows;
        held = subst (λ x. IsHeld x (g.I.In.progress n')) (sym c.replace.ensures.after) e.held;
      },
      e.received ∙ ap in_hand (sym c.replace.ensures.after),
    )
