use Rattle.std.proofs.Common.{ap, ◌∙◌}
use Rattle.prolly_root.specs.ChunkFile.{nth_in}
use Rattle.prolly_root.proofs.FileBytes.{frame_there}
use Rattle.prolly_root.proofs.file.file_chunks.FileChunksChunkSource.chunk.Goals as goal

pub returns-in-Some-clause-gives : goal.returns-in-Some-clause-gives
returns-in-Some-clause-gives g c file n from goes stands =
    c.in-Some.ensures.leaf file.bytes goes.1 ∙ frame_there goes.0.0.cut stands.below stands.frame ∙
    ap (nth_in file) stands.number_is
