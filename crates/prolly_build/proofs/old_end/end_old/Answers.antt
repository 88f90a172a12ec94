use Rattle.std.proofs.Common.{◌-◌, inl, inr, ap, subst, Err}
use Rattle.prolly_build.specs.RunResult.{IsHaltFault}
use Rattle.prolly_report.specs.declared.apply_fault.ApplyFault.TheVariants.{Run}
use Rattle.prolly_build.proofs.RanSteps.{written_begun}
use Rattle.prolly_build.proofs.old_end.end_old.Goals as goal

pub returns-in-Err-clause-ended : goal.returns-in-Err-clause-ended
returns-in-Err-clause-ended g c = λ old written. inr (
  ap (λ f. Err (Run f)) (subst (λ h. IsHaltFault h c.fault.result) c.in-Err.ensures.lost
      c.fault.ensures),
  written_begun c.args.config (c.args.config.stages - 1) c.args.ran.base.wrote.last.items old _
      c.args.ran.base.wrote.written written,
)

pub returns-clause-ended : goal.returns-clause-ended
returns-clause-ended g c = λ old written. inl (record {
  leaves_met = c.in_default.ensures.leaves;
  changes_met = c.in_default.ensures.changes;
  answer = c.finish-run.result;
  finished = c.finish-run.ensures old written;
  told = c.told_answer.ensures;
})
