use Rattle.std.proofs.Common.{refl}
use Rattle.prolly_look_up.specs.Kinds.{kind_of}
use Rattle.prolly_look_up.specs.Sought.{sought_of}
use Rattle.prolly_look_up.specs.lemmas.Ways.{child_leads}
use Rattle.prolly_look_up.specs.lemmas.HeldPairs.{some_byte}
use Rattle.prolly_look_up.proofs.step.step_at.Goals as goal

pub step_of-requires-clause-mark : goal.step_of-requires-clause-mark
step_of-requires-clause-mark c = c.first.ensures.first c.args.version c.args.chunk.now
    (some_byte c.args.version c.args.chunk.now c.in_ok-test_chunk.ensures.named.ordered.whole)

pub returns-in-Some-clause-step : goal.returns-in-Some-clause-step
returns-in-Some-clause-step c = (
  child_leads (sought_of c.args.due.now.sought) (kind_of c.args.version c.args.chunk.now)
      c.in-Some.child c.in-Some.ensures.on,
  refl,
)
