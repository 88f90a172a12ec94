-- One argument more at each step.
use Rattle.prolly_line.proofs.commands.pack.with_sort.Goals as goal

pub returns : goal.returns
returns c = λ app has.
    let with_sort = c.with_argument-line.ensures app _ has c.sort_flag.ensures in
    let with_unique = c.with_argument-line-2.ensures _ _ with_sort c.unique_flag.ensures in
    c.with_argument.ensures _ _ with_unique c.memory_option.ensures
