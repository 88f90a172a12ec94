use Rattle.prolly_line.proofs.Shapes.{takes_get}
use Rattle.prolly_line.specs.AcceptedWords.{rows_in}
use Rattle.prolly_line.proofs.commands.get.get_one.Goals as goal

pub trusted_key-requires : goal.trusted_key-requires
trusted_key-requires c =
    let takes = takes_get (rows_in c.args.given.now) c.requires.accepted in
    record {
      format = takes.format;
      key = c.requires.fit.key c.requires.none;
      notation = c.notation_of-notation.ensures;
    }

pub text_of-requires : goal.text_of-requires
text_of-requires c = (takes_get (rows_in c.args.given.now) c.requires.accepted).file
