-- The number is what is sought.
use Rattle.prolly_line.proofs.commands.nth.nth_line.Goals as goal

pub returns : goal.returns
returns c = c.look_up_line.ensures _ c.n_word.ensures
