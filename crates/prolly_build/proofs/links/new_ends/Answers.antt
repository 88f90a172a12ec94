use Rattle.std.proofs.Common.{arith}
use Rattle.prolly_build.specs.RunResult.{IsUnsent, IsUnreceived}
use Rattle.prolly_build.proofs.FirstOnes.{all_and_last, maps_and_last}
use Rattle.prolly_build.proofs.links.new_ends.Goals as goal

pub loop-preserved : goal.loop-preserved
loop-preserved c = (
  omega (arith, c.loop.invariant.0, c.in_ok-push.ensures.len),
  omega (arith, c.loop.invariant.1, c.in_ok-push.ensures.capacity),
  all_and_last IsUnsent _ _ _ c.in_ok-push.ensures.items c.loop.invariant.2
      c.in_ok-sender.field-0.unsent,
  all_and_last IsUnreceived _ _ _ c.in_ok-push-2.ensures.items c.loop.invariant.3
      c.in_ok-sender.field-0.unreceived,
  maps_and_last (λ o. o.link) (λ r. r.link) _ _ _ _ _ _ c.in_ok-push.ensures.items
      c.in_ok-push-2.ensures.items c.loop.invariant.4 c.in_ok-sender.field-0.paired,
)
