use Rattle.std.proofs.lemmas.Result.{err_from_is_err_and}
use Rattle.prolly_text.proofs.Appended.{still_front}
use Rattle.prolly_text.proofs.Kept.{kept_first, kept_more}
use Rattle.prolly_text.proofs.numbers.records.append_records.Goals as goal

pub returns-in_err-append_line-2 : goal.returns-in_err-append_line-2
returns-in_err-append_line-2 c =
    let failed = err_from_is_err_and c.from_residual-in_err-append_line-2.result
    c.from_residual-in_err-append_line-2.ensures.1 in
    rw failed.1 (still_front _ _ _ (kept_more _ _ _ _ (kept_more _ _ _ _ (kept_more _ _ _ _
    (kept_first _ _ _ c.in_ok-append_number_line.ensures) c.in_ok-append_number_line-2.ensures)
    c.in_ok-append_number_line-3.ensures) c.in_ok-append_line.ensures)
    c.in_err-append_line-2.ensures)
