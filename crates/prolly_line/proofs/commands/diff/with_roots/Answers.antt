-- One argument more at each step.
use Rattle.prolly_line.proofs.commands.diff.with_roots.Goals as goal

pub returns : goal.returns
returns c = λ app has.
    let with_old = c.with_argument-line.ensures app _ has c.tree_root_option-old.ensures in
    let with_new = c.with_argument-line-2.ensures _ _ with_old c.tree_root_option-new.ensures in
    c.with_argument.ensures _ _ with_new c.format_option-format.ensures
