use Rattle.std.proofs.lemmas.Grind.{common_steps}
use Rattle.std.proofs.Common.{◌∙◌, rules, arith}
use Rattle.prolly_link.proofs.FollowingLemmas.{drains_item}
use Rattle.prolly_link.proofs.receiver.Receiver.drain.Goals as goal

pub invariant_of-result : goal.invariant_of-result
invariant_of-result g c = search rules

pub loop-init : goal.loop-init
loop-init g c = grind (arith, common_steps) steps 2000000

pub loop-preserved-in-Item : goal.loop-preserved-in-Item
loop-preserved-in-Item g c =
    let before = c.loop.receiver in
    let after = c.recv.new.self in (
      c.in-Item.ensures.link ∙ c.loop.invariant.0,
      drains_item c.args.self.progress before.progress after.progress c.args.self.items before.items
          after.items c.in-Item.field-0
          c.loop.invariant.1 c.in-Item.ensures.again c.in-Item.ensures.progress
          c.in-Item.ensures.items,
    )
