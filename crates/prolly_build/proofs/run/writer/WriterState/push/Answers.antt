use Rattle.std.proofs.Common.{subst}
use Rattle.prolly_build.specs.WriterState.{HasWritten}
use Rattle.prolly_build.proofs.WritingSteps.{tall_stays, failed_stays}
use Rattle.prolly_build.proofs.run.writer.WriterState.push.Goals as goal

pub returns-in-TooTall : goal.returns-in-TooTall
returns-in-TooTall g c = λ head events old h. tall_stays c.args.event.now
    (subst (HasWritten head c.args.last_level events old _) c.in-TooTall.is h)

pub returns-in-Failed : goal.returns-in-Failed
returns-in-Failed g c = λ head events old h. failed_stays c.args.event.now
    (subst (HasWritten head c.args.last_level events old _) c.in-Failed.is h)
