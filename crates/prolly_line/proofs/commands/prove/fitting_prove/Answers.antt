use Rattle.std.proofs.Common.{codes, subst, sym}
use Rattle.prolly_line.proofs.Shapes.{takes_prove}
use Rattle.std.proofs.lemmas.Result.{err_from_is_err_and}
use Rattle.prolly_line.proofs.ValueLemmas.{last_there, prove_refused}
use Rattle.prolly_line.specs.AcceptedWords.{HasWord, rows_in}
use Rattle.prolly_line.proofs.commands.prove.fitting_prove.Goals as goal

pub trust_of-requires : goal.trust_of-requires
trust_of-requires c = (takes_prove (rows_in c.args.given.now) c.requires.accepted).format

pub text_of-requires : goal.text_of-requires
text_of-requires c = (takes_prove (rows_in c.args.given.now) c.requires.accepted).file

pub text_of-requires-2 : goal.text_of-requires-2
text_of-requires-2 c = subst (λ name. HasWord name (rows_in c.args.given.now))
    (sym c.place_of_last.ensures) (last_there (rows_in c.args.given.now)
    c.notation_of-notation.result c.in_ok-sought.sought (codes "out") c.requires.fit
    c.in_ok-sought.ensures.sought)

pub returns-in_err-sought : goal.returns-in_err-sought
returns-in_err-sought c =
    let p = err_from_is_err_and c.from_residual-in_err-sought.result
    c.from_residual-in_err-sought.ensures.1 in
    rw (p.1, p.2) (prove_refused (rows_in c.args.given.now) c.in_ok-root.root
    c.in_err-sought.field-0.0 c.in_ok-root.ensures.trust.0 c.in_err-sought.ensures.refused)
