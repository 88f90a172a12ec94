use Rattle.std.proofs.Common.{codes, inl, refl}
use Rattle.prolly_line.proofs.Fits.{prove_answers}
use Rattle.prolly_line.proofs.ValueLemmas.{misfit_refused}
use Rattle.prolly_line.specs.AcceptedWords.{rows_in}
use Rattle.prolly_line.proofs.commands.prove.prove.Goals as goal

pub returns-in-Some : goal.returns-in-Some
returns-in-Some c = misfit_refused (codes "prove", rows_in c.args.given.now) c.fault.result
    (inl (refl, c.in-Some.ensures.some)) c.fault.ensures

pub returns-in-None : goal.returns-in-None
returns-in-None c = prove_answers (rows_in c.args.given.now)
    c.fitting_prove.result c.in-None.ensures.none c.fitting_prove.ensures
