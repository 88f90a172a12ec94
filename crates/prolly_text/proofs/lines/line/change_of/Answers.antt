use Rattle.std.proofs.Common.{rules}
use Rattle.std.specs.Prelude.{IfErr}
use Rattle.prolly_text.specs.Notations.{IsTextFault, separator}
use Rattle.prolly_text.specs.Lines.{CutsAt}
use Rattle.prolly_text.specs.PackedLines.{MarksRemoval}
use Rattle.prolly_text.proofs.LineLemmas.{part_unread, unread_change, unread_key}
use Rattle.prolly_text.proofs.lines.line.change_of.Goals as goal

pub returns-in_err-key-clause-err : goal.returns-in_err-key-clause-err
returns-in_err-key-clause-err c =
    let key = c.in-Some.key.now in
    let change = c.in-Some.change.now in
    let cut : CutsAt (separator c.args.form.notation) c.args.line.now key change = search rules in
    let bad : IfErr c.from_residual.result (IsTextFault c.args.form.notation key) = search rules in
    part_unread c.args.form c.args.line.now (IsTextFault c.args.form.notation key)
    c.from_residual.result (λ fault h. unread_key c.args.form c.args.line.now key change fault cut h)
    bad

pub returns-in_err-value-clause-err : goal.returns-in_err-value-clause-err
returns-in_err-value-clause-err c =
    let key = c.in-Some.key.now in
    let change = c.in-Some.change.now in
    let result = c.from_residual-in_err-value.result in
    let cut : CutsAt (separator c.args.form.notation) c.args.line.now key change = search rules in
    let none : MarksRemoval c.args.form.notation change → ⊥ = search rules in
    let bad : IfErr result (IsTextFault c.args.form.notation change) = search rules in
    part_unread c.args.form c.args.line.now (IsTextFault c.args.form.notation change) result
    (λ fault h. unread_change c.args.form c.args.line.now key change fault cut none h) bad
