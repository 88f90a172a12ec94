use Rattle.std.proofs.Common.{◌≡◌, ◌∙◌, [], ap, arith, codes, length, refl, string_bytes, subst}
use Rattle.std.specs.Prelude.{unwrap_or}
use Rattle.std.proofs.lemmas.List.{length-map}
use Rattle.clap.specs.Words.{all_of}
use Rattle.prolly_line.proofs.Shapes.{takes_check}
use Rattle.prolly_line.proofs.ValueLemmas.{first_leads}
use Rattle.prolly_line.specs.AcceptedWords.{rows_in}
use Rattle.prolly_line.specs.GivenCommand.{GivesFlag}
use Rattle.prolly_line.proofs.commands.check.check_files.Goals as goal

pub trust_of-requires : goal.trust_of-requires
trust_of-requires c = (takes_check (rows_in c.args.given.now) c.requires.accepted).format

-- there is a file, and there are several where more is told than what is at fault
pub returns : goal.returns
returns c =
    let takes = takes_check (rows_in c.args.given.now) c.requires.accepted in
    let leads = first_leads (codes "file") (rows_in c.args.given.now) takes.file.0 takes.file.1 in
    let words = c.in_ok-files.ensures in
    let count : length (unwrap_or (all_of (codes "file") (rows_in c.args.given.now)) []) ≡
    length c.in_ok-files.files.items =
    ap length words ∙ length-map c.in_ok-files.files.items string_bytes in
    let some = ap length leads.1 in (
      refl,
      words,
      c.in_ok-root.ensures.trust,
      c.flag_of-quiet.ensures,
      omega (arith, count, some),
      λ loud.
          let two = c.requires.several
          (subst (GivesFlag (rows_in c.args.given.now) (codes "quiet")) loud c.flag_of-quiet.ensures)
          in
          omega (arith, two, count),
    )
