use Rattle.std.proofs.lemmas.Grind.{common_steps}
use Rattle.std.proofs.Common.{◌∙◌, arith}
use Rattle.prolly_io.proofs.Written.{handed_on}
use Rattle.prolly_io.proofs.device.buffered.Buffered.hand_on.Goals as goal

pub loop-self-preserved : goal.loop-self-preserved
loop-self-preserved g c = record {
  keeping = λ keeps. c.in-Ok.ensures.keeping (c.loop-self.invariant.keeping keeps);
  bytes =
      λ keeps.
      let took = rw c.deref.ensures.value at (c.in-Ok.ensures.bytes
      (c.loop-self.invariant.keeping keeps)) in
      handed_on _ _ c.loop-self.self.held.items c.loop-self.self.sent c.in-Ok.count took ∙
      c.loop-self.invariant.bytes keeps;
  held = c.loop-self.invariant.held;
  has_failed = c.loop-self.invariant.has_failed;
  failures = c.loop-self.invariant.failures;
  unfailed = grind (arith, common_steps);
}
