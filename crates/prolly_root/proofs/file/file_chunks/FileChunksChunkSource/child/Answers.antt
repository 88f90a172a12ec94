use Rattle.std.proofs.Common.{sym}
use Rattle.prolly_root.proofs.Descending.{handed_on}
use Rattle.prolly_root.proofs.Sources.{child_found, keeps_level}
use Rattle.prolly_root.proofs.file.file_chunks.FileChunksChunkSource.child.Goals as goal

pub returns-in_err-top-clause-finds : goal.returns-in_err-top-clause-finds
returns-in_err-top-clause-finds g c file n from goes stands level =
    rw (handed_on c.in_err-top.field-0.0 c.from_residual.result c.from_residual.ensures, sym stands.from_is)
    (c.in_err-top.ensures.place file goes.0 (keeps_level level stands) stands.below)

pub returns-clause-finds : goal.returns-clause-finds
returns-clause-finds g c file n from goes stands level =
    child_found stands c.in_ok-top.top
    (c.in_ok-top.ensures.place file goes.0 (keeps_level level stands) stands.below)
