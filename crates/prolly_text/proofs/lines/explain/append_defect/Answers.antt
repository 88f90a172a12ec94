use Rattle.std.proofs.lemmas.Result.{err_from_is_err_and}
use Rattle.prolly_text.proofs.Appended.{still_front}
use Rattle.prolly_text.proofs.Kept.{kept_first, kept_more}
use Rattle.prolly_text.proofs.lines.explain.append_defect.Goals as goal

pub returns-in_err-append_right : goal.returns-in_err-append_right
returns-in_err-append_right c =
    let failed = err_from_is_err_and c.from_residual-in_err-append_right.result
    c.from_residual-in_err-append_right.ensures.1 in
    rw failed.1 (still_front _ _ _ (kept_more _ _ _ _ (kept_more _ _ _ _ (kept_first _ _ _
    c.in_ok-append_place.ensures) c.in_ok-extend_from_slice.ensures.items)
    c.in_ok-append_shown.ensures) c.in_err-append_right.ensures)
