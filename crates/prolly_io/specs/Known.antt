-- The bytes of a reader or a writer of std, which tells them or does not.
use Rattle.std.specs.Prelude.{ℕ, Bool, false, List, [], Option, Some, None, unwrap_or}
use Rattle.prolly_io.specs.Bytes.{are_bytes}

-- The bytes that it tells, or none where it tells nothing.
abbrev pub known_bytes : Option (List ℕ) → List ℕ
known_bytes known = unwrap_or known []

-- It tells its bytes, and each of them is a byte.
abbrev pub are_known_bytes : Option (List ℕ) → Bool
are_known_bytes None = false
are_known_bytes (Some numbers) = are_bytes numbers
