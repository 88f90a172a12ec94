use Rattle.prolly_line.proofs.Fits.{verify_answers}
use Rattle.prolly_line.specs.AcceptedWords.{rows_in}
use Rattle.prolly_line.proofs.commands.verify.verify.Goals as goal

pub returns-in-None : goal.returns-in-None
returns-in-None c = verify_answers (rows_in c.args.given.now)
    c.fitting_verify.result c.in-None.ensures.none c.fitting_verify.ensures
