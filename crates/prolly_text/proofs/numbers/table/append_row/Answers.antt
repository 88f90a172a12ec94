use Rattle.std.proofs.Common.{◌≡◌, ◌++◌, [], ◌∷◌, ◌∙◌, ap, append_assoc, codes, rules, string_bytes}
use Rattle.std.specs.Fmt.{decimal}
use Rattle.prolly_text.specs.Table.{bar, row_line}
use Rattle.std.proofs.lemmas.Result.{err_from_is_err_and}
use Rattle.prolly_text.proofs.Appended.{still_front}
use Rattle.prolly_text.proofs.Kept.{kept_first}
use Rattle.prolly_text.proofs.Columns.{hole, hole_is}
use Rattle.prolly_text.proofs.numbers.table.append_row.Goals as goal

pub returns : goal.returns
unfolding row_line
returns c =
    let row = c.args.row.now in
    let columns : string_bytes c.in_ok-columns.columns ≡
    hole 5 (decimal row.number) ++ (hole 12 (decimal row.level.chunks) ++
    (hole 12 (decimal row.entries) ++ (hole 14 (decimal row.level.bytes) ++
    (hole 12 (decimal row.level.least) ++ (hole 12 (decimal row.level.middle) ++
    (hole 12 (decimal row.level.greatest) ++ codes "  ")))))) = search rules in
    let line : c.push.new.self.items ≡
    c.args.out.now.items ++ string_bytes c.in_ok-columns.columns ++ bar row.level.chunks ++
    0x0A ∷ [] = search rules in
    line ∙
    ap (λ t. c.args.out.now.items ++ t ++ bar row.level.chunks ++ 0x0A ∷ []) columns ∙
    simp (hole_is, append_assoc)

pub returns-in_err-append_bar : goal.returns-in_err-append_bar
returns-in_err-append_bar c =
    let failed = err_from_is_err_and c.from_residual-in_err-append_bar.result
    c.from_residual-in_err-append_bar.ensures.1 in
    rw failed.1 (still_front _ _ _ (kept_first _ _ _ c.in_ok-extend_from_slice.ensures.items)
    c.in_err-append_bar.ensures)
