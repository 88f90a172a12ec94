use Rattle.std.proofs.Common.{arith, codes, refl}
use Rattle.prolly_line.proofs.Shapes.{takes_scan}
use Rattle.prolly_line.proofs.ValueLemmas.{HasNumber-wider}
use Rattle.prolly_line.specs.AcceptedWords.{rows_in}
use Rattle.prolly_line.proofs.commands.scan.scan.Goals as goal

pub trusted_key-requires : goal.trusted_key-requires
trusted_key-requires c =
    let takes = takes_scan (rows_in c.args.given.now) c.requires in
    record {
      format = takes.format;
      key = takes.key;
      notation = c.notation_of-notation.ensures;
    }

pub number_of-limit-requires : goal.number_of-limit-requires
number_of-limit-requires c =
    HasNumber-wider (codes "limit") (rows_in c.args.given.now) 0 1000000 0 4294967295 (omega arith)
    (omega arith)
    (takes_scan (rows_in c.args.given.now) c.requires).limit

pub text_of-requires : goal.text_of-requires
text_of-requires c = (takes_scan (rows_in c.args.given.now) c.requires).file

pub returns : goal.returns
returns c =
    let takes = takes_scan (rows_in c.args.given.now) c.requires in (
      refl,
      c.in_ok-file.ensures,
      c.in_ok-root.ensures.key,
      c.number_of-limit.ensures 0 1000000 (omega arith) takes.limit,
      c.in_ok-root.ensures.trust,
    )
