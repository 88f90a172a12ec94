use Rattle.prolly_answer.proofs.DumpSteps.{record_files_are_dumped}
use Rattle.prolly_answer.proofs.laws.record_files_are_dumped.Goals as goal

pub returns : goal.returns
returns c = record_files_are_dumped
