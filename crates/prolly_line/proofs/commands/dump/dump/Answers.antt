use Rattle.prolly_line.proofs.Shapes.{takes_dump}
use Rattle.prolly_line.specs.AcceptedWords.{rows_in}
use Rattle.prolly_line.proofs.commands.dump.dump.Goals as goal

pub text_of-requires : goal.text_of-requires
text_of-requires c = (takes_dump (rows_in c.args.given.now) c.requires).file

pub trust_of-requires : goal.trust_of-requires
trust_of-requires c = (takes_dump (rows_in c.args.given.now) c.requires).format
