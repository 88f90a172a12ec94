-- The line that a text begins with, seen from the bytes of it that are at hand.
use Rattle.std.specs.Prelude.{◌≡◌, ◌++◌, ◌∷◌, [], ℕ, zero, suc, ◌+◌, ◌<◌, ◌≤◌, ◌⊎◌, List, length, take}
use Rattle.std.specs.Prelude.{drop}
use Rattle.std.specs.Prelude.{Result, MatchResult}
use Rattle.prolly_text.specs.Lines.{lines_of}
use Rattle.prolly_text.specs.declared.lines.buffer.Ahead.{Ahead}
use Rattle.prolly_text.specs.declared.lines.buffer.Ahead.TheVariants.{End, Line, TooLong}
use Rattle.prolly_text.specs.declared.lines.buffer.TheConstants.{LINE_LIMIT}

-- The text begins with a line that is longer than any that stands for a record.
pub record BeginsWithLongLine (text : List ℕ) : Type 0 where
  pub line : List ℕ
  pub after : List (List ℕ)
  pub whole : lines_of text ≡ line ∷ after
  pub over : LINE_LIMIT < length line

-- The line lies within the unparsed bytes, and it is not too long.
pub record LiesWithin (unparsed : List ℕ) (len size : ℕ) : Type 0 where
  pub short : len ≤ LINE_LIMIT
  pub some : 0 < size
  pub front : len ≤ size
  pub within : size ≤ length unparsed

-- What stands ahead lies within the unparsed bytes, as far as it has to.
abbrev pub IsWithin : List ℕ → Ahead → Type 0
IsWithin unparsed End = unparsed ≡ []
IsWithin unparsed (Line len size) = LiesWithin unparsed len size
IsWithin unparsed TooLong = LINE_LIMIT < length unparsed

-- The text, of which these are the unparsed bytes and what is left behind them, begins with a line
-- of `len` bytes. It has one byte more, its newline; or the text ends there.
pub record BeginsWithLine (unparsed left : List ℕ) (len size : ℕ) : Type 0 where
  pub whole : lines_of (unparsed ++ left) ≡
      take len unparsed ∷ lines_of (drop size unparsed ++ left)
  pub ends : (size ≡ len + 1) ⊎ ((size ≡ len) × (drop size unparsed ++ left ≡ []))

-- The text begins with a line that is too long, and the line with the unparsed bytes.
pub record LooksLong (unparsed left : List ℕ) : Type 0 where
  pub long : BeginsWithLongLine (unparsed ++ left)
  pub front : take LINE_LIMIT long.line ≡ take LINE_LIMIT unparsed

-- What stands ahead is what the text begins with: the unparsed bytes, and what is left behind them.
abbrev pub IsAhead : List ℕ → List ℕ → Ahead → Type 0
IsAhead unparsed left End = unparsed ++ left ≡ []
IsAhead unparsed left (Line len size) = BeginsWithLine unparsed left len size
IsAhead unparsed left TooLong = LooksLong unparsed left

-- Nothing of the text is passed, and what stands ahead of it is told.
abbrev pub LooksAhead : {E : Type 0} → List ℕ → List ℕ → List ℕ → List ℕ → Result Ahead E → Type 0
LooksAhead old left new left' result =
    (old ++ left ≡ new ++ left') × MatchResult result (IsAhead new left') (λ _. Unit {0})

-- The last line, of so many bytes, or none where it has none.
abbrev pub last_ahead : ℕ → Ahead
last_ahead zero = End
last_ahead (suc n) = Line (suc n) (suc n)

-- The first line of a text was passed: it had so many bytes, and one more, its newline; or the text
-- ends there.
pub record PassesLine (text rest : List ℕ) (size : ℕ) : Type 0 where
  pub line : List ℕ
  pub whole : lines_of text ≡ line ∷ lines_of rest
  pub bytes_are : length text ≡ size + length rest
  pub ends : (size ≡ length line + 1) ⊎ ((size ≡ length line) × (rest ≡ []))
