-- How a device counts its failures.
use Rattle.std.specs.Prelude.{◌≡◌, ℕ, ◌+◌, ◌%◌, ◌^◌, Result, MatchResult}

-- The number of failures after one more. It is counted modulo 2 ^ 64, so that no device runs out of
-- numbers.
abbrev pub after_failure : ℕ → ℕ
after_failure failures = (failures + 1) % 2 ^ 64

-- A failed call added one failure, and an `Ok` added none.
abbrev pub CountsFailure : {T E : Type 0} → ℕ → ℕ → Result T E → Type 0
CountsFailure old new result = MatchResult result (λ _. new ≡ old) (λ _. new ≡ after_failure old)
