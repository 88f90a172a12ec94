use Rattle.prolly_line.proofs.Shapes.{takes_get}
use Rattle.prolly_line.specs.AcceptedWords.{rows_in}
use Rattle.prolly_line.proofs.commands.get.get_keys.Goals as goal

pub trust_of-requires : goal.trust_of-requires
trust_of-requires c = (takes_get (rows_in c.args.given.now) c.requires.accepted).format

pub text_of-requires : goal.text_of-requires
text_of-requires c = (takes_get (rows_in c.args.given.now) c.requires.accepted).file
