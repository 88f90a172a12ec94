use Rattle.std.proofs.Common.{arith}
use Rattle.std.proofs.lemmas.Grind.{common_steps}
use Rattle.prolly_text.specs.Flaws.{flawed_text}
use Rattle.std.proofs.lemmas.Result.{err_from_is_err_and}
use Rattle.prolly_text.proofs.Appended.{still_front}
use Rattle.prolly_text.proofs.Kept.{kept_first, kept_more}
use Rattle.prolly_text.proofs.numbers.records.append_flaw.Goals as goal

pub returns : goal.returns
unfolding flawed_text
returns c = grind (arith, common_steps)

pub returns-in_err-append_line : goal.returns-in_err-append_line
returns-in_err-append_line c =
    let failed = err_from_is_err_and c.from_residual-in_err-append_line.result
    c.from_residual-in_err-append_line.ensures.1 in
    rw failed.1 (still_front _ _ _ (kept_more _ _ _ _ (kept_more _ _ _ _ (kept_first _ _ _
    c.in_ok-extend_from_slice.ensures.items) c.in_ok-extend_from_slice-2.ensures.items)
    c.in_ok-push.ensures.items) c.in_err-append_line.ensures)

pub returns-in_err-append_line-2 : goal.returns-in_err-append_line-2
returns-in_err-append_line-2 c =
    let failed = err_from_is_err_and c.from_residual-in_err-append_line-2.result
    c.from_residual-in_err-append_line-2.ensures.1 in
    rw failed.1 (still_front _ _ _ (kept_more _ _ _ _ (kept_more _ _ _ _ (kept_more _ _ _ _
    (kept_first _ _ _ c.in_ok-extend_from_slice.ensures.items)
    c.in_ok-extend_from_slice-2.ensures.items) c.in_ok-push.ensures.items)
    c.in_ok-append_line.ensures) c.in_err-append_line-2.ensures)
