use Rattle.std.proofs.Common.{◌≡◌, true, false, rules}
use Rattle.std.specs.Prelude.{IfErr}
use Rattle.prolly_text.specs.Lines.{reads_bare_keys}
use Rattle.prolly_text.specs.Notations.{IsTextFault}
use Rattle.prolly_text.proofs.LineLemmas.{bare_refused, part_unread, unread_bare}
use Rattle.prolly_text.proofs.lines.line.bare_change.Goals as goal

pub returns-then-not-reads_bare_keys-clause-err : goal.returns-then-not-reads_bare_keys-clause-err
returns-then-not-reads_bare_keys-clause-err c =
    let none : reads_bare_keys c.args.form.notation c.args.form.removals ≡ false = search rules in
    bare_refused c.args.form c.args.line.now c.requires none

pub returns-in_err-key-clause-err : goal.returns-in_err-key-clause-err
returns-in_err-key-clause-err c =
    let reads : reads_bare_keys c.args.form.notation c.args.form.removals ≡ true = search rules in
    let bad : IfErr c.from_residual.result (IsTextFault c.args.form.notation c.args.line.now) =
    search rules in
    part_unread c.args.form c.args.line.now (IsTextFault c.args.form.notation c.args.line.now)
    c.from_residual.result
    (λ fault h. unread_bare c.args.form c.args.line.now fault c.requires reads h) bad
