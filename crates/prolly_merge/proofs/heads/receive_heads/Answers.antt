use Rattle.std.proofs.Common.{◌≡◌, ◌∙◌, ap, ◌+◌, ◌<◌, length, get_or, arith}
use Rattle.std.proofs.lemmas.Option.{slice_get-get_or}
use Rattle.prolly_merge.proofs.Openings.{open_at, open_all}
use Rattle.prolly_merge.proofs.heads.receive_heads.Goals as goal

pub loop-input-preserved : goal.loop-input-preserved
loop-input-preserved g c =
    let i = c.loop-input.input-index in
    let ns = c.loop-input.inputs in
    let hs = c.loop-input.heads in
    let n = get_or ns i c.input-item.result in
    let inv = c.loop-input.invariant in
    let e = c.receive-head.ensures in
    let pushed = c.in_default-push.ensures in
    let test = c.loop-input-test.true in
    let auto = c.loop-input.auto.inputs in
    let within : i < length ns = omega arith in
    let len : length hs.items ≡ i = omega (arith, hs.ok.0, inv.len) in
    record {
      room = omega (arith, inv.room, c.push.ensures.capacity);
      len = pushed.len ∙ ap (λ k. k + 1) inv.len;
      opened = open_at g.I.In.link g.I.In.progress g.I.In.Follows g.I.In.received c.args.inputs.now
          ns hs.items c.push.new.self.items n c.receive-head.new.input c.receive-head.result i
          inv.opened len
          (slice_get-get_or ns i c.input-item.result within)
          (record {
            link_is = e.link;
            follows = e.follows;
            received_is = e.received;
            held = e.held;
          }) pushed.items;
    }

pub returns-clause-opened : goal.returns-clause-opened
returns-clause-opened g c =
    let hs = c.loop-input.heads in
    let inv = c.loop-input.invariant in
    let test = c.loop-input-test.false in
    let auto = c.loop-input.auto.inputs in
    let upto = c.loop-input.auto.input-index-end in
    let len : length hs.items ≡ length c.loop-input.inputs = omega (arith, hs.ok.0, inv.len) in
    open_all g.I.In.link g.I.In.progress g.I.In.Follows g.I.In.received c.args.inputs.now
    c.loop-input.inputs hs.items inv.opened len
