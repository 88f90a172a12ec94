use Rattle.std.proofs.Common.{Ok, refl}
use Rattle.prolly_root.proofs.Descending.{hands_on, looks_up_so}
use Rattle.prolly_root.proofs.look_up.reader.Reader.seek.Goals as goal

pub returns-in_err-descend-clause-looked : goal.returns-in_err-descend-clause-looked
returns-in_err-descend-clause-looked g c = looks_up_so c.in_err-descend.field-0.0
    c.from_residual.result c.from_residual.ensures c.in_err-descend.ensures.looked

pub returns-clause-looked : goal.returns-clause-looked
returns-clause-looked g c = hands_on {E = Unit {0}} (Ok tt) (Ok tt) (refl, refl)
    tt c.in_ok-descend.ensures.looked

pub returns-clause-found : goal.returns-clause-found
returns-clause-found g c = c.in_ok-descend.ensures.found.way
