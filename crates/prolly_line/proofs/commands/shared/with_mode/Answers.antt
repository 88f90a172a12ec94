-- One argument more at each step.
use Rattle.prolly_line.proofs.commands.shared.with_mode.Goals as goal

pub returns : goal.returns
returns c = λ app has.
    let with_atomic = c.with_argument-line.ensures app _ has c.atomic_flag.ensures in
    let with_sync = c.with_argument-line-2.ensures _ _ with_atomic c.sync_flag.ensures in
    c.with_argument.ensures _ _ with_sync c.force_flag.ensures
