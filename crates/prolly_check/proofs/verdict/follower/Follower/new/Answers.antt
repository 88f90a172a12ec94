use Rattle.std.proofs.Common.{refl}
use Rattle.prolly_check.proofs.FollowerSteps.{going_begins}
use Rattle.prolly_check.proofs.verdict.follower.Follower.new.Goals as goal

pub returns : goal.returns
returns c = (
  going_begins c.args.cut c.args.version c.in_ok-new_nodes.field-0.items c.new.result.items
      c.in_ok-new_nodes.ensures.unused c.in_ok-new_nodes.ensures.count c.new.ensures.items,
  refl,
  refl,
)
