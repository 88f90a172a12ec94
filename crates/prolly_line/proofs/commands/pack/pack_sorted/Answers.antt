use Rattle.prolly_line.proofs.Shapes.{takes_pack}
use Rattle.prolly_line.specs.AcceptedWords.{rows_in}
use Rattle.prolly_line.proofs.commands.pack.pack_sorted.Goals as goal

pub text_of-requires : goal.text_of-requires
text_of-requires c = (takes_pack (rows_in c.args.given.now) c.requires.accepted).out

pub memory_of-memory-requires : goal.memory_of-memory-requires
memory_of-memory-requires c = (takes_pack (rows_in c.args.given.now) c.requires.accepted).memory
