use Rattle.std.proofs.Common.{arith, codes, refl}
use Rattle.prolly_line.proofs.Shapes.{takes_scratch}
use Rattle.prolly_line.proofs.ValueLemmas.{HasNumber-wider}
use Rattle.prolly_line.specs.AcceptedWords.{rows_in}
use Rattle.prolly_line.proofs.commands.scratch.fitting_scratch.Goals as goal

pub bits_of-bits-requires : goal.bits_of-bits-requires
bits_of-bits-requires c = (takes_scratch (rows_in c.args.given.now) c.requires.accepted).bits

pub chunk_bytes_of-chunk_bytes-requires : goal.chunk_bytes_of-chunk_bytes-requires
chunk_bytes_of-chunk_bytes-requires c =
    (takes_scratch (rows_in c.args.given.now) c.requires.accepted).chunk_bytes

pub byte_of-version-requires : goal.byte_of-version-requires
byte_of-version-requires c =
    HasNumber-wider (codes "format") (rows_in c.args.given.now) 1 2 0 255 (omega arith)
    (omega arith)
    (takes_scratch (rows_in c.args.given.now) c.requires.accepted).format

pub returns : goal.returns
returns c =
    let takes = takes_scratch (rows_in c.args.given.now) c.requires.accepted in (
      refl,
      c.bits_of-bits.ensures,
      c.chunk_bytes_of-chunk_bytes.ensures,
      c.requires.fit,
      c.byte_of-version.ensures 1 2 (omega arith) takes.format,
      c.in_ok-out.ensures,
      c.mode_of-mode.ensures,
    )
