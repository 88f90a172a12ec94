-- One subcommand more at each step.
use Rattle.prolly_line.proofs.assembly.with_three.Goals as goal

pub returns : goal.returns
returns c = λ app one two three is has_one has_two has_three.
    let with_one = c.with_subcommand-line.ensures app one is has_one in
    let with_two = c.with_subcommand-line-2.ensures _ two with_one has_two in
    c.with_subcommand.ensures _ three with_two has_three
