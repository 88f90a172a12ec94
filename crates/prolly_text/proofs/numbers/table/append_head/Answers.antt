use Rattle.std.proofs.lemmas.Result.{err_from_is_err_and}
use Rattle.prolly_text.proofs.Appended.{still_front}
use Rattle.prolly_text.proofs.Kept.{kept_first, kept_more}
use Rattle.prolly_text.proofs.numbers.table.append_head.Goals as goal

pub returns-in_err-append_number_line-4 : goal.returns-in_err-append_number_line-4
returns-in_err-append_number_line-4 c =
    let failed = err_from_is_err_and c.from_residual-in_err-append_number_line-4.result
    c.from_residual-in_err-append_number_line-4.ensures.1 in
    rw failed.1 (still_front _ _ _ (kept_more _ _ _ _ (kept_more _ _ _ _ (kept_more _ _ _ _
    (kept_more _ _ _ _ (kept_more _ _ _ _ (kept_first _ _ _ c.in_ok-extend_from_slice.ensures.items)
    c.in_ok-extend_from_slice-2.ensures.items) c.in_ok-push.ensures.items)
    c.in_ok-append_number_line.ensures) c.in_ok-append_number_line-2.ensures)
    c.in_ok-append_number_line-3.ensures) c.in_err-append_number_line-4.ensures)

pub returns-in_err-append_number_line-5 : goal.returns-in_err-append_number_line-5
returns-in_err-append_number_line-5 c =
    let failed = err_from_is_err_and c.from_residual-in_err-append_number_line-5.result
    c.from_residual-in_err-append_number_line-5.ensures.1 in
    rw failed.1 (still_front _ _ _ (kept_more _ _ _ _ (kept_more _ _ _ _ (kept_more _ _ _ _
    (kept_more _ _ _ _ (kept_more _ _ _ _ (kept_more _ _ _ _ (kept_first _ _ _
    c.in_ok-extend_from_slice.ensures.items) c.in_ok-extend_from_slice-2.ensures.items)
    c.in_ok-push.ensures.items) c.in_ok-append_number_line.ensures)
    c.in_ok-append_number_line-2.ensures) c.in_ok-append_number_line-3.ensures)
    c.in_ok-append_number_line-4.ensures) c.in_err-append_number_line-5.ensures)
