use Rattle.std.proofs.Common.{arith, codes, refl}
use Rattle.prolly_line.proofs.Shapes.{takes_build}
use Rattle.prolly_line.proofs.ValueLemmas.{HasNumber-wider}
use Rattle.prolly_line.specs.AcceptedWords.{rows_in}
use Rattle.prolly_line.proofs.commands.build.fitting_build.Goals as goal

pub bits_of-bits-requires : goal.bits_of-bits-requires
bits_of-bits-requires c = (takes_build (rows_in c.args.given.now) c.requires.accepted).bits

pub chunk_bytes_of-chunk_bytes-requires : goal.chunk_bytes_of-chunk_bytes-requires
chunk_bytes_of-chunk_bytes-requires c =
    (takes_build (rows_in c.args.given.now) c.requires.accepted).chunk_bytes

pub byte_of-stages-requires : goal.byte_of-stages-requires
byte_of-stages-requires c =
    HasNumber-wider (codes "stages") (rows_in c.args.given.now) 1 12 0 255 (omega arith)
    (omega arith)
    (takes_build (rows_in c.args.given.now) c.requires.accepted).stages

pub number_of-capacity-requires : goal.number_of-capacity-requires
number_of-capacity-requires c =
    HasNumber-wider (codes "capacity") (rows_in c.args.given.now) 1 4096 0 4294967295 (omega arith)
    (omega arith)
    (takes_build (rows_in c.args.given.now) c.requires.accepted).capacity

pub number_of-max_records-requires : goal.number_of-max_records-requires
number_of-max_records-requires c =
    HasNumber-wider (codes "max-records") (rows_in c.args.given.now) 1 16777216 0 4294967295
    (omega arith) (omega arith)
    (takes_build (rows_in c.args.given.now) c.requires.accepted).max_records

pub number_of-batch-requires : goal.number_of-batch-requires
number_of-batch-requires c =
    HasNumber-wider (codes "batch") (rows_in c.args.given.now) 1 1024 0 4294967295 (omega arith)
    (omega arith)
    (takes_build (rows_in c.args.given.now) c.requires.accepted).batch

pub byte_of-version-requires : goal.byte_of-version-requires
byte_of-version-requires c =
    HasNumber-wider (codes "format") (rows_in c.args.given.now) 1 2 0 255 (omega arith)
    (omega arith)
    (takes_build (rows_in c.args.given.now) c.requires.accepted).format

pub text_of-requires : goal.text_of-requires
text_of-requires c = (takes_build (rows_in c.args.given.now) c.requires.accepted).out

pub returns : goal.returns
returns c =
    let takes = takes_build (rows_in c.args.given.now) c.requires.accepted in (
      refl,
      c.bits_of-bits.ensures,
      c.chunk_bytes_of-chunk_bytes.ensures,
      c.requires.fit,
      c.byte_of-stages.ensures 1 12 (omega arith) takes.stages,
      c.number_of-capacity.ensures 1 4096 (omega arith) takes.capacity,
      c.number_of-max_records.ensures 1 16777216 (omega arith) takes.max_records,
      c.number_of-batch.ensures 1 1024 (omega arith) takes.batch,
      c.byte_of-version.ensures 1 2 (omega arith) takes.format,
      c.in_ok-out.ensures,
      c.in_ok-files.ensures,
      c.flag_of-quiet.ensures,
      c.mode_of-mode.ensures,
    )
