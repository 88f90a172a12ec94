use Rattle.prolly_line.proofs.Shapes.{takes_root}
use Rattle.prolly_line.specs.AcceptedWords.{rows_in}
use Rattle.prolly_line.proofs.commands.root.root.Goals as goal

pub text_of-requires : goal.text_of-requires
text_of-requires c = (takes_root (rows_in c.args.given.now) c.requires).file
