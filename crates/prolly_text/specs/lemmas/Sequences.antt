-- Pieces one after another.
use Rattle.std.proofs.Common.{◌≡◌, inl, inr, ℕ, ◌<◌, List, [], ◌∷◌, ◌++◌, length, refl, sym, ap}
use Rattle.std.proofs.Common.{◌∙◌, subst, append-nil, append_assoc, arith, length-append}
use Rattle.prolly_text.specs.Pieces.{HasPiece, BeginsWithNone, BeginsWithAll, IsPiece, IsTextOf}
use Rattle.prolly_text.specs.lemmas.Fronts.{none_of_nothing, one_piece}

-- Pieces behind pieces.
pub all_both : (xs ys text mid behind : List ℕ) → BeginsWithAll text xs mid →
    BeginsWithAll mid ys behind → BeginsWithAll text (xs ++ ys) behind
all_both [] ys text mid behind h k =
    subst (λ t. BeginsWithAll t ys behind) (sym h) k
all_both (x ∷ xs) ys text mid behind h k = (h.0, h.1, all_both xs ys h.0 mid behind h.2 k)

-- The same pieces in front of more text.
pub all_longer : (bytes text behind more : List ℕ) → BeginsWithAll text bytes behind →
    BeginsWithAll (text ++ more) bytes (behind ++ more)
all_longer [] text behind more h = ap (λ t. t ++ more) h
all_longer (b ∷ bytes) text behind more h = (
  h.0 ++ more,
  record {
    piece = h.1.piece;
    whole = ap (λ t. t ++ more) h.1.whole ∙ append_assoc h.1.piece h.0 more;
    is = h.1.is;
  },
  all_longer bytes h.0 behind more h.2,
)

pub all_one : (byte : ℕ) (text behind : List ℕ) → HasPiece text byte behind →
    BeginsWithAll text (byte ∷ []) behind
all_one byte text behind h = (behind, h, refl)

pub all_more : (bytes text rest behind : List ℕ) (byte : ℕ) → BeginsWithAll text bytes rest →
    HasPiece rest byte behind → BeginsWithAll text (bytes ++ byte ∷ []) behind
all_more bytes text rest behind byte h k =
    all_both bytes (byte ∷ []) text rest behind h (all_one byte rest behind k)

-- Behind some pieces of a text are the other ones.
pub record AreMore (bytes begun rest : List ℕ) : Type 0 where
  pub more : List ℕ
  pub whole : bytes ≡ begun ++ more
  pub is : IsTextOf rest more

pub more_behind : (begun bytes text rest : List ℕ) → BeginsWithAll text begun rest →
    IsTextOf text bytes → AreMore bytes begun rest
more_behind [] bytes text rest h k = record {
  more = bytes;
  whole = refl;
  is = subst (λ t. IsTextOf t bytes) h k;
}
more_behind (b ∷ begun) [] text rest h k =
    absurd (none_of_nothing b h.0 (subst (λ t. HasPiece t b h.0) k h.1))
more_behind (b ∷ begun) (x ∷ bytes) text rest h k =
    let same = one_piece text x b k.0 h.0 k.1 h.1 in
    let inner = more_behind begun bytes h.0 rest h.2
    (subst (λ t. IsTextOf t bytes) same.rest_is k.2) in
    record {
      more = inner.more;
      whole = ap (λ y. y ∷ bytes) same.byte_is ∙ ap (λ ys. b ∷ ys) inner.whole;
      is = inner.is;
    }

nothing_more : (more : List ℕ) → IsTextOf [] more → more ≡ []
nothing_more [] h = refl
nothing_more (x ∷ more) h = absurd (none_of_nothing x h.0 h.1)

-- A text stands for one list of bytes at most.
pub one_text : (text a b : List ℕ) → IsTextOf text a → IsTextOf text b → a ≡ b
one_text text a b h k =
    let rest = more_behind b a text [] k h in
    rest.whole ∙ ap (λ xs. b ++ xs) (nothing_more rest.more rest.is) ∙ append-nil b

-- A text that stops at something that is no piece stands for nothing.
pub none_read : (text begun rest bytes : List ℕ) → BeginsWithAll text begun rest →
    BeginsWithNone rest → (rest ≡ [] → ⊥) → IsTextOf text bytes → ⊥
none_read text begun rest bytes h none some k =
    let more = more_behind begun bytes text rest h k in go more.more more.is
  where
    go : (left : List ℕ) → IsTextOf rest left → ⊥
    go [] e = some e
    go (x ∷ left) e = none x e.0 e.1

-- A piece takes a part of its text.
pub piece_shortens : (text : List ℕ) (byte : ℕ) (behind : List ℕ) → HasPiece text byte behind →
    length behind < length text
piece_shortens text byte behind h = go h.is
  where
    go : IsPiece h.piece byte → length behind < length text
    go (inl k) = omega (arith, ap length h.whole, length-append h.piece behind, ap length k.0)
    go (inr (inl k)) = omega (arith, ap length h.whole, length-append h.piece behind, ap length k.1)
    go (inr (inr k)) = omega (arith, ap length h.whole, length-append h.piece behind, ap length k.1)
