use Rattle.prolly_tree.specs.lemmas.Walks.{alike_none, alike_more}
use Rattle.prolly_diff.proofs.side.pass_shared.Goals as goal

pub loop-init : goal.loop-init
loop-init c = alike_none (record { before = c.args.before.now; after = c.args.after.now })

pub loop-preserved : goal.loop-preserved
loop-preserved c = alike_more (record { before = c.args.before.now; after = c.args.after.now })
    (record { before = c.loop.before; after = c.loop.after })
    (record { before = c.pass_leaf.new.before; after = c.pass_leaf.new.after })
    c.loop.invariant (c.pass_leaf.ensures.passed c.loop-test.true)
