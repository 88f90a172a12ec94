-- What stands behind the elements that were written.
use Rattle.std.proofs.Common.{◌≡◌, ℕ, ◌+◌, ◌-◌, ◌≤◌, List, drop, sym, ap, ◌∙◌, arith}
use Rattle.std.proofs.lemmas.List.{drop-drop}

-- Lists that are the same behind some elements are so behind more of them.
pub same_behind : {A : Type 0} → (few many : ℕ) (xs ys : List A) → drop few xs ≡ drop few ys →
    few ≤ many → drop many xs ≡ drop many ys
same_behind few many xs ys same less =
    let all : few + (many - few) ≡ many = omega arith in
    ap (λ n. drop n xs) (sym all) ∙ sym (drop-drop (many - few) few xs) ∙
    ap (drop (many - few)) same ∙ drop-drop (many - few) few ys ∙ ap (λ n. drop n ys) all

-- Where more is written, what stands behind that is as it was at first.
pub still_behind : {A : Type 0} → (few many : ℕ) (first before after : List A) → few ≤ many →
    drop few before ≡ drop few first → drop many after ≡ drop many before →
    drop many after ≡ drop many first
still_behind few many first before after less was is = is ∙
    same_behind few many before first was less
