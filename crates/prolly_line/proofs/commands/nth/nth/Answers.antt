use Rattle.std.proofs.Common.{arith, codes, refl, subst, sym}
use Rattle.prolly_line.proofs.Shapes.{takes_nth}
use Rattle.prolly_line.proofs.ValueLemmas.{HasNumber-wider}
use Rattle.prolly_line.specs.GivenCommand.{GivesNumber}
use Rattle.prolly_line.specs.AcceptedWords.{rows_in}
use Rattle.prolly_line.proofs.commands.nth.nth.Goals as goal

pub trust_of-requires : goal.trust_of-requires
trust_of-requires c = (takes_nth (rows_in c.args.given.now) c.requires).format

pub number_of-requires : goal.number_of-requires
number_of-requires c =
    HasNumber-wider (codes "n") (rows_in c.args.given.now) 0 4294967295 0 4294967295 (omega arith)
    (omega arith)
    (takes_nth (rows_in c.args.given.now) c.requires).n

pub text_of-requires : goal.text_of-requires
text_of-requires c = (takes_nth (rows_in c.args.given.now) c.requires).file

pub returns : goal.returns
returns c =
    let takes = takes_nth (rows_in c.args.given.now) c.requires in (
      refl,
      c.in_ok-file.ensures,
      subst (GivesNumber (rows_in c.args.given.now) (codes "n") 0
          4294967295) (sym c.from-n.ensures) (c.number_of.ensures 0 4294967295 (omega arith)
          takes.n),
      c.in_ok-root.ensures.trust,
      c.notation_of-notation.ensures,
    )
