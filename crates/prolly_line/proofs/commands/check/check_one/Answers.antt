use Rattle.prolly_line.proofs.Shapes.{takes_check}
use Rattle.prolly_line.specs.AcceptedWords.{rows_in}
use Rattle.prolly_line.proofs.commands.check.check_one.Goals as goal

pub text_of-requires : goal.text_of-requires
text_of-requires c = (takes_check (rows_in c.args.given.now) c.requires.accepted).file

pub trust_of-requires : goal.trust_of-requires
trust_of-requires c = (takes_check (rows_in c.args.given.now) c.requires.accepted).format
