-- Bytes that are written one part after another.
use Rattle.std.proofs.Common.{◌≡◌, ◌∙◌, ◌+◌, ◌-◌, ℕ, List, ◌++◌, ap, append_assoc, arith, drop}
use Rattle.std.proofs.Common.{length, length-drop, sym, take}
use Rattle.std.proofs.lemmas.List.{drop-drop, take_all, take-append-drop}
use Rattle.prolly_io.specs.Sink.{TakesPrefix}

-- All of the bytes but the rest were taken.
pub record IsWritten (old new bytes rest : List ℕ) : Type 0 where
  pub part : List ℕ
  pub grown : new ≡ old ++ part
  pub split : bytes ≡ part ++ rest

-- A prefix of the first of two parts is one of both.
pub taken_of_first : (old new first second : List ℕ) → TakesPrefix old new first →
    TakesPrefix old new (first ++ second)
taken_of_first old new first second t = record {
  part = t.part;
  grown = t.grown;
  is_prefix = (
    t.is_prefix.0 ++ second,
    ap (λ xs. xs ++ second) t.is_prefix.1 ∙ append_assoc t.part t.is_prefix.0 second,
  );
}

-- Where some bytes more were handed on of those that are held behind an offset, what was taken and
-- what is held is the same.
pub handed_on : (old new held : List ℕ) (sent count : ℕ) →
    new ≡ old ++ take count (take (length held - sent) (drop sent held))
    → new ++ drop (sent + count) held ≡ old ++ drop sent held
handed_on old new held sent count took =
    let rest : take (length held - sent) (drop sent held) ≡ drop sent held =
    take_all _ _ (omega (arith, length-drop sent held)) in
    ap (λ xs. xs ++ drop (sent + count) held) (rw rest at took)
    ∙ (append_assoc old (take count (drop sent held)) (drop (sent + count) held)
    ∙ ap (λ xs. old ++ xs) (ap (λ xs. take count (drop sent held) ++ xs)
    (sym (drop-drop count sent held)) ∙ take-append-drop count (drop sent held)))
