-- A key that is too long to be shown whole.
use Rattle.std.proofs.Common.{◌≡◌, ℕ, true, nat_lt, List, ◌++◌, codes, length, take, ap, sym}
use Rattle.std.proofs.Common.{◌∙◌, append_assoc}
use Rattle.std.specs.Fmt.{decimal}
use Rattle.std.specs.Prelude.{if◌then◌else◌}
use Rattle.prolly_text.specs.Flaws.{shortened}
use Rattle.prolly_text.specs.Notations.{written}
use Rattle.prolly_text.specs.declared.notation.Notation.{Notation}

-- What is appended for it, part by part.
pub shown_front : (notation : Notation) (key front out new : List ℕ) →
    nat_lt 64 (length key) ≡ true → front ≡ take 64 key →
    new ≡ out ++ written notation front ++
    (codes "... (" ++ (decimal (length key) ++ codes " bytes)")) →
    new ≡ out ++ shortened notation key
shown_front notation key front out new long same is =
    let cut = written notation (take 64 key) ++ codes "... (" ++ decimal (length key) ++
    codes " bytes)" in
    let whole : shortened notation key ≡ cut =
    ap (λ b. if b then cut else written notation key) long in
    is ∙ ap (λ t. out ++ written notation t ++
    (codes "... (" ++ (decimal (length key) ++ codes " bytes)"))) same ∙
    simp append_assoc (ap (λ t. out ++ t) (sym (simp append_assoc at whole)))
