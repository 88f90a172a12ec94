use Rattle.prolly_laws.proofs.RecordFiles.{record_files_are_read, record_files_make_files}
use Rattle.prolly_laws.proofs.entries.record_files_are_read.Goals as goal

pub returns : goal.returns
returns c = record { read = record_files_are_read; again = record_files_make_files }
