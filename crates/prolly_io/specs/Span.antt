-- Spans of bytes: from one offset to another.
use Rattle.std.specs.Prelude.{◌≡◌, ℕ, ◌+◌, ◌-◌, ◌≤◌, List, length, take, drop, Option, Some, None}
use Rattle.prolly_io.specs.declared.device.read_buffer.Span.{Span}

-- The bytes of a span.
abbrev pub part : List ℕ → Span → List ℕ
part bytes span = take (span.end - span.start) (drop span.start bytes)

-- What is kept are at most so many of the bytes before an offset; or there is none.
abbrev pub IsKeptBefore : ℕ → ℕ → Option Span → Type 0
IsKeptBefore most offset None = Unit {0}
IsKeptBefore most offset (Some kept) = (kept.start ≤ kept.end) × (kept.end ≤ kept.start + most) ×
    (kept.end ≤ offset)

-- The bytes are so many, the unparsed ones are a part of them, and the kept ones lie before that
-- part.
pub record ArePlaced (most size : ℕ) (bytes : List ℕ) (kept : Option Span) (unparsed : Span) : Type 0
  where
    pub size_is : length bytes ≡ size
    pub ordered : unparsed.start ≤ unparsed.end
    pub within : unparsed.end ≤ size
    pub before : IsKeptBefore most unparsed.start kept
