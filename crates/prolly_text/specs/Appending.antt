-- Bytes that are appended to others.
use Rattle.std.specs.Prelude.{◌≡◌, ◌++◌, List, ℕ, Result, MatchResult}
use Rattle.std.specs.Io.{StartsWith}

-- All of the bytes that were wanted are behind the old ones. At an error the old ones still stand in
-- front.
abbrev pub Appends : {T E : Type 0} → Result T E → List ℕ → List ℕ → List ℕ → Type 0
Appends result old wanted new =
    MatchResult result (λ _. new ≡ old ++ wanted) (λ _. StartsWith new old)
