use Rattle.std.proofs.Common.{◌∙◌, sym}
use Rattle.prolly_answer.proofs.Statuses.{none_refused, one_refused}
use Rattle.prolly_answer.proofs.answers.check.status_behind.Goals as goal

pub returns-then-status-eq0 : goal.returns-then-status-eq0
returns-then-status-eq0 c = λ before is. sym (none_refused before c.args.answer.now.status
    (sym is ∙ c.if-status-eq0.true))

pub returns-else-status-eq0 : goal.returns-else-status-eq0
returns-else-status-eq0 c = λ before is. is ∙ sym (one_refused before c.args.answer.now.status
    (λ none. c.if-status-eq0.false (is ∙ none)))
