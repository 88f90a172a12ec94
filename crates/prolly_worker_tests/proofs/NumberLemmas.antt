-- One number more.
use Rattle.std.proofs.Common.{◌≡◌, ℕ, zero, suc, ◌+◌, List, [], ◌∷◌, ◌++◌, ◌∙◌, ap, append_assoc}
use Rattle.std.proofs.Common.{sym, arith}
use Rattle.std.specs.List.{range_with_len}

one_more : (a n m : ℕ) → a + n ≡ m → range_with_len a (suc n) ≡ range_with_len a n ++ m ∷ []
one_more a zero m e = ap (λ k. k ∷ []) (let f : a ≡ m = omega arith in f)
one_more a (suc n) m e = ap (λ r. a ∷ r) (one_more (a + 1) n m (omega arith))

-- what was sent after the numbers below n, and n
pub number_sent : (sent before after : List ℕ) (n : ℕ) → sent ≡ before ++ range_with_len 0 n →
    after ≡ sent ++ n ∷ [] → after ≡ before ++ range_with_len 0 (n + 1)
number_sent sent before after n e f =
    let next : n + 1 ≡ suc n = omega arith in
    f ∙ ap (λ xs. xs ++ n ∷ []) e ∙ append_assoc before (range_with_len 0 n) (n ∷ []) ∙
    ap (λ xs. before ++ xs) (sym (ap (range_with_len 0) next ∙ one_more 0 n n (omega arith)))
