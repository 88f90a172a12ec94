-- What a contract sees of a sink, and what a write does to the bytes that it took.
use Rattle.std.specs.Prelude.{◌≡◌, ℕ, ◌<◌, Bool, true, List, ◌++◌, length, take, Result}
use Rattle.std.specs.Prelude.{MatchResult}
use Rattle.prolly_entry.specs.Prefix.{IsPrefix}
use Rattle.prolly_io.specs.Failures.{after_failure}

-- What a contract sees of a sink: whether it keeps the bytes that it takes, those that it took so
-- far, those of them that are where they end up, behind every buffer, and how many of its calls
-- failed, modulo 2 ^ 64.
pub record SinkView : Type 0 where
  pub is_keeping : Bool
  pub taken : List ℕ
  pub settled : List ℕ
  pub failures : ℕ

-- Where a sink keeps what it takes, it holds none of it back.
abbrev pub IsSettled : SinkView → Type 0
IsSettled sink = sink.is_keeping ≡ true → sink.settled ≡ sink.taken

-- A write that gave `Ok(n)` took the first n bytes of the slice. A failed write took none.
abbrev pub Takes : {E : Type 0} → List ℕ → List ℕ → Result ℕ E → List ℕ → Type 0
Takes old new result buf = MatchResult result (λ n. new ≡ old ++ take n buf) (λ _. new ≡ old)

-- A failed write added one failure, so did one that took no byte of a slice that has some, and no
-- other did.
abbrev pub CountsWriteFailure : {E : Type 0} → ℕ → ℕ → Result ℕ E → List ℕ → Type 0
CountsWriteFailure old new result buf =
    MatchResult result (λ n. (n ≡ 0 → 0 < length buf → new ≡ after_failure old)
    × ((n ≡ 0 → length buf ≡ 0) → new ≡ old)) (λ _. new ≡ after_failure old)

-- Of bytes that were to be written, some prefix was taken.
pub record TakesPrefix (old new wanted : List ℕ) : Type 0 where
  pub part : List ℕ
  pub grown : new ≡ old ++ part
  pub is_prefix : IsPrefix part wanted
