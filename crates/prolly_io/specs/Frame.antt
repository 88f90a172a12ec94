-- The frame of a chunk, over the chunk's bytes.
use Rattle.std.specs.Prelude.{◌≡◌, ℕ, ◌+◌, ◌<◌, ◌≤◌, ◌^◌, Bool, true, not, ◌||◌, ◌==◌, nat_lt, List}
use Rattle.std.specs.Prelude.{[], ◌∷◌, ◌++◌, length, take, drop}
use Rattle.std.specs.Int.{w64, to_be_bytes, from_be_bytes}

-- What a frame begins with: the letter C and the chunk's length in eight bytes.
abbrev pub frame_start : ℕ → List ℕ
frame_start len = 0x43 ∷ to_be_bytes w64 len

-- The frame of a chunk of these bytes.
abbrev pub framed : List ℕ → List ℕ
framed bytes = frame_start (length bytes) ++ bytes

-- The length of the bytes can be written in eight bytes.
abbrev pub IsSmall : List ℕ → Type 0
IsSmall chunk = length chunk < 2 ^ 64

-- A whole frame begins the bytes, of a chunk of this length.
pub record BeginsFrame (bytes : List ℕ) (len : ℕ) : Type 0 where
  pub within : 9 + len ≤ length bytes
  pub small : len < 2 ^ 64
  pub is : bytes ≡ framed (take len (drop 9 bytes)) ++ drop (9 + len) bytes

-- No whole frame begins the bytes.
abbrev pub has_no_frame : List ℕ → Bool
has_no_frame [] = true
has_no_frame (b ∷ rest) =
    not (b == 0x43) || (nat_lt (length rest) 8 || nat_lt (length rest)
    (8 + from_be_bytes w64 (take 8 rest)))
