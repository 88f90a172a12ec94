use Rattle.std.proofs.Common.{arith, codes, option_map, refl, string_bytes, subst}
use Rattle.prolly_line.proofs.Shapes.{takes_verify}
use Rattle.prolly_line.proofs.ValueLemmas.{HasNumber-wider}
use Rattle.prolly_line.specs.AcceptedWords.{rows_in}
use Rattle.prolly_line.specs.GivenCommand.{GivesOption}
use Rattle.prolly_line.proofs.commands.verify.fitting_verify.Goals as goal

pub root_of-requires : goal.root_of-requires
root_of-requires c = (takes_verify (rows_in c.args.given.now) c.requires.accepted).root

pub byte_of-version-requires : goal.byte_of-version-requires
byte_of-version-requires c =
    HasNumber-wider (codes "format") (rows_in c.args.given.now) 1 2 0 255 (omega arith)
    (omega arith)
    (takes_verify (rows_in c.args.given.now) c.requires.accepted).format

pub returns : goal.returns
returns c =
    let takes = takes_verify (rows_in c.args.given.now) c.requires.accepted in (
      refl,
      c.in_ok-root.ensures.root,
      c.in_ok-sought.ensures.sought,
      c.byte_of-version.ensures 1 2 (omega arith) takes.format,
      (
        subst (λ name. GivesOption (rows_in c.args.given.now) name
            (option_map string_bytes c.in_ok-proof.proof)) c.place_of_last.ensures
            c.in_ok-proof.ensures,
        c.requires.fit.no_last,
      ),
    )
