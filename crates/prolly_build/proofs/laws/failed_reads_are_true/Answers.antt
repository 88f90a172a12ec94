use Rattle.prolly_build.proofs.FailedReads.{no_read_is_told, reads_true}
use Rattle.prolly_build.proofs.laws.failed_reads_are_true.Goals as goal

pub returns : goal.returns
returns g c = record {
  failed = λ settings before after old new result outcome.
      reads_true g.S.Source.seen settings before after _ _ _ result outcome;
  steady = λ settings before after old new result steady outcome.
      no_read_is_told g.S.Source.seen settings before after _ _ _ result steady outcome;
}
