use Rattle.prolly_root.proofs.Sources.{holds_file}
use Rattle.prolly_root.proofs.file.file_chunks.FileChunks.into_device.Goals as goal

pub returns-clause-has : goal.returns-clause-has
returns-clause-has g c content has = holds_file has.lawful has.goes.0.0
