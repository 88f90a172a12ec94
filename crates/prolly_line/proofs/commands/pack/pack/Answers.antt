use Rattle.std.proofs.Common.{codes, inl, inr, refl}
use Rattle.prolly_line.proofs.ValueLemmas.{misfit_refused}
use Rattle.prolly_line.specs.AcceptedWords.{rows_in}
use Rattle.prolly_line.proofs.commands.pack.pack.Goals as goal

pub returns-in-Some : goal.returns-in-Some
returns-in-Some c = misfit_refused (codes "pack", rows_in c.args.given.now) c.fault.result
    (inr (inr (inr (inl (refl, c.in-Some.ensures.some))))) c.fault.ensures
