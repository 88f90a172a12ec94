use Rattle.prolly_tree.specs.Walks.{Maps, AreAlike}
use Rattle.prolly_tree.specs.lemmas.Walks.{alike_more, alike_one, maps_behind, removed, added}
use Rattle.prolly_tree.specs.lemmas.Walks.{changed, differ, same, nothing_left}
use Rattle.prolly_diff.proofs.differences.next_change.Goals as goal

pub take_least-requires : goal.take_least-requires
take_least-requires c =
    let maps : Maps = record { before = c.args.before.now; after = c.args.after.now } in
    let mid : Maps = record { before = c.pass_shared.new.before; after = c.pass_shared.new.after }
    in
    maps_behind maps mid (alike_more maps (record {
      before = c.loop-key.before;
      after = c.loop-key.after;
    }) mid c.loop-key.invariant c.pass_shared.ensures) c.requires

pub returns-in-Some-None-clause-change : goal.returns-in-Some-None-clause-change
returns-in-Some-None-clause-change c =
    let maps : Maps = record { before = c.args.before.now; after = c.args.after.now } in
    let mid : Maps = record { before = c.pass_shared.new.before; after = c.pass_shared.new.after }
    in
    let rest : Maps = record { before = c.take_least.new.before; after = c.take_least.new.after } in
    let s : AreAlike maps mid = alike_more maps (record {
      before = c.loop-key.before;
      after = c.loop-key.after;
    }) mid c.loop-key.invariant c.pass_shared.ensures in
    rw (
      c.of-in-Some-None.ensures.key,
      c.of-in-Some-None.ensures.before,
      c.of-in-Some-None.ensures.after,
    )
    (removed maps mid rest (record { key = c.in-Some-None.key.now; value = c.in-Some-None.old.now })
    c.requires s (rw (c.in-Some-None.is-0, c.in-Some-None.is-1) at c.take_least.ensures))

pub returns-in-Some-None-clause-left : goal.returns-in-Some-None-clause-left
returns-in-Some-None-clause-left c =
    let maps : Maps = record { before = c.args.before.now; after = c.args.after.now } in
    let mid : Maps = record { before = c.pass_shared.new.before; after = c.pass_shared.new.after }
    in
    let rest : Maps = record { before = c.take_least.new.before; after = c.take_least.new.after } in
    let s : AreAlike maps mid = alike_more maps (record {
      before = c.loop-key.before;
      after = c.loop-key.after;
    }) mid c.loop-key.invariant c.pass_shared.ensures in
    (removed maps mid rest (record { key = c.in-Some-None.key.now; value = c.in-Some-None.old.now })
    c.requires s (rw (c.in-Some-None.is-0, c.in-Some-None.is-1) at c.take_least.ensures)).left

pub returns-in-None-Some-clause-change : goal.returns-in-None-Some-clause-change
returns-in-None-Some-clause-change c =
    let maps : Maps = record { before = c.args.before.now; after = c.args.after.now } in
    let mid : Maps = record { before = c.pass_shared.new.before; after = c.pass_shared.new.after }
    in
    let rest : Maps = record { before = c.take_least.new.before; after = c.take_least.new.after } in
    let s : AreAlike maps mid = alike_more maps (record {
      before = c.loop-key.before;
      after = c.loop-key.after;
    }) mid c.loop-key.invariant c.pass_shared.ensures in
    rw (
      c.of-in-None-Some.ensures.key,
      c.of-in-None-Some.ensures.before,
      c.of-in-None-Some.ensures.after,
    )
    (added maps mid rest (record { key = c.in-None-Some.key.now; value = c.in-None-Some.new.now })
    c.requires s (rw (c.in-None-Some.is-0, c.in-None-Some.is-1) at c.take_least.ensures))

pub returns-in-None-Some-clause-left : goal.returns-in-None-Some-clause-left
returns-in-None-Some-clause-left c =
    let maps : Maps = record { before = c.args.before.now; after = c.args.after.now } in
    let mid : Maps = record { before = c.pass_shared.new.before; after = c.pass_shared.new.after }
    in
    let rest : Maps = record { before = c.take_least.new.before; after = c.take_least.new.after } in
    let s : AreAlike maps mid = alike_more maps (record {
      before = c.loop-key.before;
      after = c.loop-key.after;
    }) mid c.loop-key.invariant c.pass_shared.ensures in
    (added maps mid rest (record { key = c.in-None-Some.key.now; value = c.in-None-Some.new.now })
    c.requires s (rw (c.in-None-Some.is-0, c.in-None-Some.is-1) at c.take_least.ensures)).left

pub returns-then-ne-clause-change : goal.returns-then-ne-clause-change
returns-then-ne-clause-change c =
    let maps : Maps = record { before = c.args.before.now; after = c.args.after.now } in
    let mid : Maps = record { before = c.pass_shared.new.before; after = c.pass_shared.new.after }
    in
    let rest : Maps = record { before = c.take_least.new.before; after = c.take_least.new.after } in
    let s : AreAlike maps mid = alike_more maps (record {
      before = c.loop-key.before;
      after = c.loop-key.after;
    }) mid c.loop-key.invariant c.pass_shared.ensures in
    rw (c.of.ensures.key, c.of.ensures.before, c.of.ensures.after)
    (changed maps mid rest (record { key = c.in-Some-Some.key.now; value = c.in-Some-Some.old.now })
    (record { key = c.in-Some-Some.field-0-0-1.now; value = c.in-Some-Some.new.now })
    c.requires s (rw (c.in-Some-Some.is-0, c.in-Some-Some.is-1) at c.take_least.ensures)
    (differ c.in-Some-Some.old.now c.in-Some-Some.new.now c.ne.result c.ne.ensures c.if-ne.true))

pub returns-then-ne-clause-left : goal.returns-then-ne-clause-left
returns-then-ne-clause-left c =
    let maps : Maps = record { before = c.args.before.now; after = c.args.after.now } in
    let mid : Maps = record { before = c.pass_shared.new.before; after = c.pass_shared.new.after }
    in
    let rest : Maps = record { before = c.take_least.new.before; after = c.take_least.new.after } in
    let s : AreAlike maps mid = alike_more maps (record {
      before = c.loop-key.before;
      after = c.loop-key.after;
    }) mid c.loop-key.invariant c.pass_shared.ensures in
    (changed maps mid rest (record { key = c.in-Some-Some.key.now; value = c.in-Some-Some.old.now })
    (record { key = c.in-Some-Some.field-0-0-1.now; value = c.in-Some-Some.new.now })
    c.requires s (rw (c.in-Some-Some.is-0, c.in-Some-Some.is-1) at c.take_least.ensures)
    (differ c.in-Some-Some.old.now c.in-Some-Some.new.now c.ne.result c.ne.ensures
    c.if-ne.true)).left

pub loop-key-preserved : goal.loop-key-preserved
loop-key-preserved c =
    let maps : Maps = record { before = c.args.before.now; after = c.args.after.now } in
    let mid : Maps = record { before = c.pass_shared.new.before; after = c.pass_shared.new.after }
    in
    let rest : Maps = record { before = c.take_least.new.before; after = c.take_least.new.after } in
    let s : AreAlike maps mid = alike_more maps (record {
      before = c.loop-key.before;
      after = c.loop-key.after;
    }) mid c.loop-key.invariant c.pass_shared.ensures in
    alike_more maps mid rest s (alike_one mid rest
    (record { key = c.in-Some-Some.key.now; value = c.in-Some-Some.old.now })
    (record { key = c.in-Some-Some.field-0-0-1.now; value = c.in-Some-Some.new.now })
    (rw (c.in-Some-Some.is-0, c.in-Some-Some.is-1) at c.take_least.ensures)
    (same c.in-Some-Some.old.now c.in-Some-Some.new.now c.ne.result c.ne.ensures c.if-ne.false))

pub returns-in-None-None-clause-left : goal.returns-in-None-None-clause-left
returns-in-None-None-clause-left c = nothing_left
    (record { before = c.pass_shared.new.before; after = c.pass_shared.new.after })
    (record { before = c.take_least.new.before; after = c.take_least.new.after })
    (rw (c.in-None-None.is-0, c.in-None-None.is-1) at c.take_least.ensures)
