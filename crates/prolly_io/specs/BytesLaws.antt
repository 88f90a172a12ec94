-- What the test of bytes tells.
use Rattle.std.proofs.Common.{◌≡◌, ℕ, Bool, true, false, List, [], Option, Some, None, All, refl}
use Rattle.std.proofs.Common.{if◌then◌else◌, ◌&&◌, ◌++◌}
use Rattle.std.proofs.lemmas.Bool.{false≢true}
use Rattle.std.proofs.lemmas.Bool.Decides.{Decides-by_and, Decides-ltb}
use Rattle.std.proofs.lemmas.List.Elements.{All-nil, All-append}
use Rattle.std.specs.Bool.{Decides}
use Rattle.std.specs.Prelude.{nat_lt}
use Rattle.prolly_entry.specs.Byte.{IsByte}
use Rattle.prolly_io.specs.Bytes.{are_bytes}
use Rattle.prolly_io.specs.Known.{known_bytes, are_known_bytes}

-- The test decides whether each number is a byte.
decided : (numbers : List ℕ) → Decides (are_bytes numbers) (All IsByte numbers)
decided numbers = Decides-by_and (λ n. nat_lt n 256) IsByte are_bytes (λ n. Decides-ltb n 256) refl
    (λ _ _. refl) numbers

-- Where the test passes, each number is a byte.
pub bytes_from_test : (numbers : List ℕ) → are_bytes numbers ≡ true → All IsByte numbers
bytes_from_test numbers = (decided numbers).0

-- Where each number is a byte, the test passes.
pub test_from_bytes : (numbers : List ℕ) → All IsByte numbers → are_bytes numbers ≡ true
test_from_bytes numbers = (decided numbers).1

-- What a reader that told bytes has left is bytes, also once it has ended.
pub bytes_left_are_bytes : (has_ended : Bool) (known : Option (List ℕ)) →
    are_known_bytes known ≡ true
    → All IsByte (if has_ended then [] else known_bytes known)
bytes_left_are_bytes true known told = All-nil IsByte
bytes_left_are_bytes false None told = absurd (false≢true told)
bytes_left_are_bytes false (Some numbers) told = bytes_from_test numbers told

-- Two tests pass where both pass.
pub both_true : (a b : Bool) → (a && b) ≡ true → (a ≡ true) × (b ≡ true)
both_true true b h = (refl, h)
both_true false b h = absurd (false≢true h)

-- Tested bytes, and behind them the bytes of an honest source, are bytes.
pub joined_are_bytes : (front rest : List ℕ) (is_honest : Bool) →
    (are_bytes front && is_honest) ≡ true → (is_honest ≡ true → All IsByte rest) →
    All IsByte (front ++ rest)
joined_are_bytes front rest is_honest told law =
    let both = both_true (are_bytes front) is_honest told in
    All-append IsByte front rest (bytes_from_test front both.0) (law both.1)
