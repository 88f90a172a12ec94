-- One argument more at each step.
use Rattle.prolly_line.proofs.commands.shared.with_range.Goals as goal

pub returns : goal.returns
returns c = λ app has.
    let with_from = c.with_argument-line.ensures app _ has c.from_option.ensures in
    let with_to = c.with_argument-line-2.ensures _ _ with_from c.to_option.ensures in
    c.with_argument.ensures _ _ with_to c.keys_option.ensures
