-- What a contract sees of a source, and what a read does to the bytes that it has left.
use Rattle.std.specs.Prelude.{◌≡◌, ℕ, ◌<◌, Bool, List, [], ◌++◌, length, take, true, Result, MatchResult}
use Rattle.std.specs.List.{AllByRecursion}

-- What a contract sees of a source: whether it is honest, so that it hands out the bytes that are
-- left, in order, and tells where they end; whether it is steady, so that no read fails; the bytes
-- that are left, where it is honest; and how many reads failed, modulo 2 ^ 64.
pub record SourceView : Type 0 where
  pub is_honest : Bool
  pub is_steady : Bool
  pub left : List ℕ
  pub failures : ℕ

-- Honest sources.
abbrev pub AreHonest : {S : Type 0} → (S → SourceView) → List S → Type 0
AreHonest seen sources = AllByRecursion (λ s. (seen s).is_honest ≡ true) sources

-- A read into a buffer that gave `Ok(n)` handed out the first n bytes that were left, and none only
-- where none is left or the buffer has no room. A failed read handed out none.
abbrev pub HandsOut : {E : Type 0} → List ℕ → List ℕ → Result ℕ E → List ℕ → Type 0
HandsOut old new result buf =
    MatchResult result (λ n. (old ≡ take n buf ++ new) × (n ≡ 0 → 0 < length buf → new ≡ []))
    (λ _. new ≡ old)

-- Of the bytes that were left before, fewer than so many were handed out, and the others are left.
pub record HandedOutFewer (size : ℕ) (old new : List ℕ) : Type 0 where
  pub given : List ℕ
  pub are : old ≡ given ++ new
  pub few : length given < size
