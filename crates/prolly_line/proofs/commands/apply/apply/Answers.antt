use Rattle.std.proofs.Common.{arith, refl}
use Rattle.prolly_line.proofs.Shapes.{takes_apply}
use Rattle.prolly_line.specs.AcceptedWords.{rows_in}
use Rattle.prolly_line.proofs.commands.apply.apply.Goals as goal

pub root_of-requires : goal.root_of-requires
root_of-requires c = (takes_apply (rows_in c.args.given.now) c.requires).root

pub text_of-requires : goal.text_of-requires
text_of-requires c = (takes_apply (rows_in c.args.given.now) c.requires).old

pub text_of-requires-2 : goal.text_of-requires-2
text_of-requires-2 c = (takes_apply (rows_in c.args.given.now) c.requires).out

pub returns : goal.returns
returns c =
    let takes = takes_apply (rows_in c.args.given.now) c.requires in (
      refl,
      c.in_ok-root.ensures.root,
      c.optional_byte_of-bits.ensures 0 24 (omega arith) takes.bits,
      c.optional_byte_of-version.ensures 1 2 (omega arith) takes.format,
      c.in_ok-old.ensures,
      c.in_ok-out.ensures,
      c.in_ok-changes.ensures,
      c.flag_of-quiet.ensures,
      c.mode_of-mode.ensures,
    )
