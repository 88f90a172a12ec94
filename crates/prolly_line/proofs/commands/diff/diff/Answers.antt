use Rattle.std.proofs.Common.{arith, codes, refl}
use Rattle.prolly_line.proofs.Shapes.{takes_diff}
use Rattle.prolly_line.proofs.ValueLemmas.{HasNumber-wider}
use Rattle.prolly_line.specs.AcceptedWords.{rows_in}
use Rattle.prolly_line.proofs.commands.diff.diff.Goals as goal

pub text_of-requires : goal.text_of-requires
text_of-requires c = (takes_diff (rows_in c.args.given.now) c.requires).old

pub text_of-requires-2 : goal.text_of-requires-2
text_of-requires-2 c = (takes_diff (rows_in c.args.given.now) c.requires).new

pub byte_of-version-requires : goal.byte_of-version-requires
byte_of-version-requires c =
    HasNumber-wider (codes "format") (rows_in c.args.given.now) 1 2 0 255 (omega arith)
    (omega arith)
    (takes_diff (rows_in c.args.given.now) c.requires).format

pub returns : goal.returns
returns c =
    let takes = takes_diff (rows_in c.args.given.now) c.requires in (
      refl,
      c.in_ok-old.ensures,
      c.in_ok-new.ensures,
      c.in_ok-roots.ensures.roots,
      c.byte_of-version.ensures 1 2 (omega arith) takes.format,
      c.in_ok-out.ensures,
      c.flag_of-stat.ensures,
      c.notation_of-notation.ensures,
      c.mode_of-mode.ensures,
    )
