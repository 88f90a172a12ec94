use Rattle.prolly_root.proofs.FileBytes.{holds_chunks}
use Rattle.prolly_root.proofs.Sources.{is_lawful}
use Rattle.prolly_root.proofs.file.file_chunks.FileChunks.new.Goals as goal

pub returns-clause-has : goal.returns-clause-has
returns-clause-has g c content holds =
    record { lawful = is_lawful holds.is; goes = ((holds_chunks holds, tt), tt) }
