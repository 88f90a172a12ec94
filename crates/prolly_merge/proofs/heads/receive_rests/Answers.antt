use Rattle.std.proofs.Common.{◌≡◌, ◌<◌, length, get_or, slice_set, refl, subst, arith}
use Rattle.std.proofs.lemmas.Option.{slice_get-get_or}
use Rattle.prolly_merge.specs.Each.{EachUpto}
use Rattle.prolly_merge.specs.Inputs.{Ends}
use Rattle.prolly_merge.proofs.EachLemmas.{each_self, upto_next, upto_at, upto_all}
use Rattle.prolly_merge.proofs.heads.receive_rests.Goals as goal

pub loop-input-init : goal.loop-input-init
loop-input-init g c = each_self (λ old new. new ≡ old) c.args.inputs.now (λ n. refl)

pub loop-input-preserved : goal.loop-input-preserved
loop-input-preserved g c =
    let i = c.loop-input.input-index in
    let os = c.args.inputs.now in
    let ns = c.loop-input.inputs in
    let n = get_or ns i c.input-item.result in
    let n' = c.receive_rest.new.input in
    let R = Ends g.I.In.link g.I.In.progress g.I.In.Follows in
    let e = c.receive_rest.ensures in
    let test = c.loop-input-test.true in
    let auto = c.loop-input.auto.inputs in
    let within : i < length ns = omega arith in
    upto_at R (λ old new. new ≡ old) i os (slice_set ns i n') (slice_set ns i n')
    (upto_next R (λ old new. new ≡ old) i os ns n n' c.loop-input.invariant
    (slice_get-get_or ns i c.input-item.result within)
    (λ o got same. subst (λ x. R x n') same (record {
      link_is = e.link;
      follows = e.follows;
      ended = e.ended;
    }))) refl

pub returns : goal.returns
returns g c =
    let R = Ends g.I.In.link g.I.In.progress g.I.In.Follows in
    let test = c.loop-input-test.false in
    let upto = c.loop-input.auto.input-index-end in
    let auto = c.loop-input.auto.inputs in
    let all : c.loop-input.input-index ≡ length c.loop-input.inputs = omega arith in
    upto_all R (λ old new. new ≡ old) c.args.inputs.now c.loop-input.inputs
    (subst (λ k. EachUpto R (λ old new. new ≡ old) k c.args.inputs.now c.loop-input.inputs) all
    c.loop-input.invariant)
