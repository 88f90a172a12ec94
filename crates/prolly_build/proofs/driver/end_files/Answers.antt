use Rattle.std.proofs.Common.{◌-◌, inl, inr, ap, subst, Err}
use Rattle.prolly_build.specs.RunResult.{IsHaltFault}
use Rattle.prolly_build.proofs.RanSteps.{written_begun}
use Rattle.prolly_build.proofs.driver.end_files.Goals as goal

pub returns-in-Ok : goal.returns-in-Ok
returns-in-Ok g c = λ old written. inl (record {
  feed = c.in-Ok.ensures.feed;
  pairs_met = c.in-Ok.ensures.pairs;
  finished = c.finish.ensures old written;
})

pub returns-in-Err : goal.returns-in-Err
returns-in-Err g c = λ old written. inr (
  ap Err (subst (λ h. IsHaltFault h c.fault.result) c.in-Err.ensures.lost c.fault.ensures),
  written_begun c.args.config (c.args.config.stages - 1) c.args.ran.base.wrote.last.items old _
      c.args.ran.base.wrote.written written,
)
