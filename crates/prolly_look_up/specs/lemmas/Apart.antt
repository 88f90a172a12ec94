-- Chunks of which no two have one reference.
use Rattle.std.proofs.Common.{◌≡◌, ℕ, inl, inr, List, [], ◌∷◌, sym, ap, ◌∙◌}
use Rattle.std.specs.List.{AllByRecursion}
use Rattle.prolly_entry.specs.Reference.{reference_of}
use Rattle.prolly_tree.specs.Chunk.{IsIn}
use Rattle.prolly_look_up.specs.Content.{AllApart}

apart_from : (c d : List ℕ) (cs : List (List ℕ)) →
    AllByRecursion (λ d. reference_of c ≡ reference_of d → ⊥) cs → IsIn d cs →
    reference_of c ≡ reference_of d → ⊥
apart_from c d [] h k e = k
apart_from c d (x ∷ cs) h (inl f) e = h.0 (e ∙ ap reference_of f)
apart_from c d (x ∷ cs) h (inr k) e = apart_from c d cs h.1 k e

-- So two of them with one reference are the same.
pub one_chunk : (cs : List (List ℕ)) (c d : List ℕ) → AllApart cs → IsIn c cs → IsIn d cs →
    reference_of c ≡ reference_of d → c ≡ d
one_chunk [] c d h k l e = absurd k
one_chunk (x ∷ cs) c d h (inl f) (inl g) e = f ∙ sym g
one_chunk (x ∷ cs) c d h (inl f) (inr l) e = absurd
    (apart_from x d cs h.0 l (ap reference_of (sym f) ∙ e))
one_chunk (x ∷ cs) c d h (inr k) (inl g) e = absurd
    (apart_from x c cs h.0 k (ap reference_of (sym g) ∙ sym e))
one_chunk (x ∷ cs) c d h (inr k) (inr l) e = one_chunk cs c d h.1 k l e
