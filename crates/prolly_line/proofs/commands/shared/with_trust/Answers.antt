-- One argument more at each step.
use Rattle.prolly_line.proofs.commands.shared.with_trust.Goals as goal

pub returns : goal.returns
returns c = λ app has.
    let with_root = c.with_argument-line.ensures app _ has c.root_option.ensures in
    c.with_argument.ensures _ _ with_root c.format_option-format.ensures
