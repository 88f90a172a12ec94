-- Bytes are seen as numbers.
use Rattle.std.specs.Prelude.{ℕ, ◌<◌}

-- The number is a byte.
abbrev pub IsByte : ℕ → Type 0
IsByte number = number < 256
