use Rattle.std.proofs.Common.{ap, length, sym, ◌∙◌, ◌≡◌}
use Rattle.std.proofs.lemmas.List.{with_items_is}
use Rattle.std.proofs.lemmas.Result.{on_ok_weaker}
use Rattle.prolly_look_up.specs.HeldPairs.{bytes_in}
use Rattle.prolly_check.proofs.Followed.{closes_empty, closes_leaves}
use Rattle.prolly_check.proofs.verdict.levels.close_behind.Goals as goal

pub returns-then-number-eq0 : goal.returns-then-number-eq0
returns-then-number-eq0 c =
    let same : length c.pass_empty.new.levels ≡ length c.args.nodes.now.items =
    c.pass_empty.ensures.size ∙ ap length c.deref_mut.ensures.value in
    on_ok_weaker c.close_all.result
    (λ closes. closes_empty c.args.cut c.args.nodes.now.items c.args.number
    c.pass_empty.new.levels (bytes_in c.pass_empty.new.due.items) _ c.if-number-eq0.true same
    (rw (c.deref_mut.ensures.value, c.requires) at c.in_ok-pass_empty.ensures.passes)
    (rw (with_items_is c.args.nodes.now c.pass_empty.new.levels
    (same ∙ sym c.args.nodes.now.ok.0)) at closes)) c.close_all.ensures

pub returns : goal.returns
returns c =
    on_ok_weaker c.close_all-2.result
    (λ closes. closes_leaves c.args.cut c.args.nodes.now.items c.args.number _ c.if-number-eq0.false
    (rw c.requires at closes)) c.close_all-2.ensures
