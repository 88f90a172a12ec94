use Rattle.prolly_line.proofs.Shapes.{takes_stat}
use Rattle.prolly_line.specs.AcceptedWords.{rows_in}
use Rattle.prolly_line.proofs.commands.stat.stat.Goals as goal

pub text_of-requires : goal.text_of-requires
text_of-requires c = (takes_stat (rows_in c.args.given.now) c.requires).file
