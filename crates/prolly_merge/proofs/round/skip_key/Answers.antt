use Rattle.std.proofs.Common.{◌≡◌, ◌<◌, true, false, length, slice_get, slice_set, Some, refl, sym, ap}
use Rattle.std.proofs.Common.{◌∙◌, arith}
use Rattle.prolly_merge.specs.Head.{has_key}
use Rattle.prolly_merge.specs.Peeked.{peeked_of}
use Rattle.prolly_merge.proofs.EachLemmas.{each_self, upto_get, upto_next, upto_skip, upto_at}
use Rattle.prolly_merge.proofs.Peeks.{peeked_head, peeked_some, read_same}
use Rattle.prolly_merge.proofs.Rounds.{Move, Stay, due_moves, other_stays}
use Rattle.prolly_merge.proofs.Shared.{last_taken, last_stays}
use Rattle.prolly_merge.proofs.round.skip_key.Goals as goal
use Rattle.prolly_merge.proofs.round.skip_key.Goals.{then-has_key, else-has_key}

pub loop-i-init : goal.loop-i-init
loop-i-init g c = record {
  left_out = refl;
  moves = each_self (λ old new. new ≡ old) (peeked_of c.args.inputs.now c.args.heads.now)
      (λ p. refl);
}

pub loop-i-preserved : goal.loop-i-preserved
loop-i-preserved g c =
    let key = c.args.sent.now.key in
    let i = c.loop-i.i in
    let first = c.args.heads.now in
    let os = peeked_of c.args.inputs.now first in
    let ns = c.loop-i.inputs in
    let hs = c.loop-i.heads in
    let M = Move g.I.In.link g.I.In.progress g.I.In.Follows g.I.In.received g.met.I.In.stays
    g.met.I.In.received_none key in
    let S = Stay g.I.In.link g.I.In.progress g.I.In.Follows g.I.In.received g.met.I.In.stays
    g.met.I.In.received_none in
    let moves = c.loop-i.invariant.moves in
    let test = c.loop-i-test.true in
    let in_inputs : i < length ns = omega arith in
    let in_heads : i < length hs = omega arith in
    let old = peeked_some c.args.inputs.now first i (omega arith) (omega arith) in
    let got : slice_get first i ≡ Some old.0.head =
    peeked_head c.args.inputs.now first i old.0 old.1 in
    elim c.if-has_key.branch [
      | then-has_key w ↦
          let e = w.next_of.ensures in
          let due : has_key key e.0.head ≡ true =
          ap (has_key key) (read_same ns hs i e.0 c.index-heads-i.result e.2 in_heads) ∙
          sym c.has_key.ensures ∙ w.if-has_key.true in
          let same = upto_get M S i os (peeked_of ns hs) old.0 e.0 moves old.1 e.2 in
          let next = upto_next M S i os (peeked_of ns hs) e.0 e.1 moves e.2
          (λ p got same. due_moves g.I.In.link g.I.In.progress g.I.In.Follows g.I.In.received
          g.met.I.In.stays g.met.I.In.received_none key p e.0 e.1 same e.5 e.6 due) in
          record {
            left_out = w.left_out-is ∙ w.into_record-left_out.ensures
                ∙ last_taken key first i w.next_of.result
                (got ∙ ap (λ p. Some p.head) (sym same) ∙ ap Some (sym e.4)) (ap (has_key key) e.4
                ∙ due);
            moves = upto_at M S i os (slice_set (peeked_of ns hs) i e.1)
                (peeked_of c.if-has_key.inputs c.if-has_key.heads) next
                (ap (λ x. peeked_of x c.if-has_key.heads) w.inputs-is ∙
                ap (peeked_of w.next_of.new.inputs) w.heads-is ∙ e.3);
          }
      | else-has_key w ↦
          let p = peeked_some ns hs i in_inputs in_heads in
          let due : has_key key p.0.head ≡ false =
          ap (has_key key) (read_same ns hs i p.0 c.index-heads-i.result p.1 in_heads) ∙
          sym c.has_key.ensures ∙ w.if-has_key.false in
          let same = upto_get M S i os (peeked_of ns hs) old.0 p.0 moves old.1 p.1 in
          let next = upto_skip M S i os (peeked_of ns hs) p.0 moves p.1
          (λ q same. other_stays g.I.In.link g.I.In.progress g.I.In.Follows g.I.In.received
          g.met.I.In.stays g.met.I.In.received_none key q p.0 same due) in
          record {
            left_out = w.left_out-is ∙ c.loop-i.invariant.left_out
                ∙ last_stays key first i p.0.head (got ∙ ap (λ q. Some q.head) (sym same)) due;
            moves = upto_at M S i os (peeked_of ns hs)
                (peeked_of c.if-has_key.inputs c.if-has_key.heads) next
                (ap (λ x. peeked_of x c.if-has_key.heads) w.inputs-is ∙ ap (peeked_of ns) w.heads-is);
          }
    ]
