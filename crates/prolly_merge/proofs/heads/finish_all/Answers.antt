use Rattle.std.proofs.Common.{◌≡◌, ◌<◌, ◌∙◌, sym, length, get_or, slice_set, refl, subst, arith}
use Rattle.std.proofs.lemmas.Option.{slice_get-get_or}
use Rattle.prolly_merge.specs.Each.{EachUpto}
use Rattle.prolly_merge.specs.Head.{IsHeld}
use Rattle.prolly_merge.specs.Peeked.{peeked_of, Finishes}
use Rattle.prolly_merge.proofs.EachLemmas.{upto_next, upto_get, upto_at, upto_all}
use Rattle.prolly_merge.proofs.Peeks.{peeked_some, read_same, inputs_are}
use Rattle.prolly_merge.proofs.Finishes.{held_get, finishes_same}
use Rattle.prolly_merge.proofs.heads.finish_all.Goals as goal

pub loop-i-init : goal.loop-i-init
loop-i-init g c = inputs_are c.args.inputs.now c.args.heads.now c.requires.len

pub finish-requires : goal.finish-requires
finish-requires g c =
    let i = c.loop-i.i in
    let os = c.args.inputs.now in
    let hs = c.args.heads.now in
    let ns = c.loop-i.inputs in
    let R = Finishes g.I.In.link g.I.In.progress g.I.In.Follows g.I.In.received in
    let test = c.loop-i-test.true in
    let len = c.requires.len in
    let auto = c.loop-i.auto.inputs in
    let in_olds : i < length os = omega arith in
    let in_news : i < length ns = omega arith in
    let in_heads : i < length hs = omega arith in
    let p = peeked_some os hs i in_olds in_heads in
    let same = upto_get R (λ old new. new ≡ old.input) i (peeked_of os hs) ns p.0
    (get_or ns i c.index-inputs-i.result) c.loop-i.invariant p.1
    (slice_get-get_or ns i c.index-inputs-i.result in_news) in
    let held = held_get g.I.In.link g.I.In.progress g.I.In.Follows g.I.In.received (peeked_of os hs)
    i p.0 c.requires.held p.1 in
    subst (λ x. IsHeld x (g.I.In.progress (get_or ns i c.index-inputs-i.result)))
    (read_same os hs i p.0 c.index-heads-i.result p.1 in_heads ∙ sym c.index-heads-i.is)
    (subst (λ x. IsHeld p.0.head (g.I.In.progress x)) (sym same) held)

pub loop-i-preserved : goal.loop-i-preserved
loop-i-preserved g c =
    let i = c.loop-i.i in
    let os = c.args.inputs.now in
    let hs = c.args.heads.now in
    let ns = c.loop-i.inputs in
    let n = get_or ns i c.index-inputs-i.result in
    let n' = c.finish.new.input in
    let R = Finishes g.I.In.link g.I.In.progress g.I.In.Follows g.I.In.received in
    let test = c.loop-i-test.true in
    let len = c.requires.len in
    let auto = c.loop-i.auto.inputs in
    let in_news : i < length ns = omega arith in
    let in_heads : i < length hs = omega arith in
    upto_at R (λ old new. new ≡ old.input) i (peeked_of os hs) (slice_set ns i n')
    (slice_set ns i n')
    (upto_next R (λ old new. new ≡ old.input) i (peeked_of os hs) ns n n' c.loop-i.invariant
    (slice_get-get_or ns i c.index-inputs-i.result in_news)
    (λ p got same. finishes_same g.I.In.link g.I.In.progress g.I.In.Follows g.I.In.received p n n'
    c.index-heads-i.result same
    (c.index-heads-i.is ∙ sym (read_same os hs i p c.index-heads-i.result got in_heads))
    c.finish.ensures)) refl

pub returns : goal.returns
returns g c =
    let R = Finishes g.I.In.link g.I.In.progress g.I.In.Follows g.I.In.received in
    let test = c.loop-i-test.false in
    let upto = c.loop-i.auto.i-end in
    let auto = c.loop-i.auto.inputs in
    let all : c.loop-i.i ≡ length c.loop-i.inputs = omega arith in
    upto_all R (λ old new. new ≡ old.input) (peeked_of c.args.inputs.now c.args.heads.now)
    c.loop-i.inputs
    (subst (λ k. EachUpto R (λ old new. new ≡ old.input) k
    (peeked_of c.args.inputs.now c.args.heads.now) c.loop-i.inputs) all c.loop-i.invariant)
