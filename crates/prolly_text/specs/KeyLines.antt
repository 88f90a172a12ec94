-- Lines of keys that rise. (This project's format.)
use Rattle.std.specs.List.{AllByRecursion, AllZip}
use Rattle.std.specs.Prelude.{◌≡◌, ℕ, ◌<◌, ◌≤◌, true, false, List, [], ◌∷◌, ◌++◌, length, Some, None}
use Rattle.prolly_entry.specs.Keys.{Rising}
use Rattle.prolly_entry.specs.Position.{Position, is_before}
use Rattle.prolly_text.specs.Lines.{IsMarked, lines_of}
use Rattle.prolly_text.specs.Notations.{IsWritten}
use Rattle.prolly_text.specs.declared.lines.keys.KeyFlaw.{KeyFlaw}
use Rattle.prolly_text.specs.declared.lines.keys.KeyFlaw.TheVariants as flaws
use Rattle.prolly_text.specs.declared.lines.keys.KeysFault.{KeysFault}
use Rattle.prolly_text.specs.declared.lines.keys.KeysFault.TheVariants as faults
use Rattle.prolly_text.specs.declared.notation.Notation.{Notation}
use Rattle.prolly_text.specs.declared.notation.Notation.TheVariants.{Hex, Text}

-- The lines stand for these keys, of which each is greater than the one before it, and none is too
-- long.
pub record AreKeysOf (notation : Notation) (lines keys : List (List ℕ)) : Type 0 where
  pub written : AllZip (IsWritten notation) lines keys
  pub rising : Rising keys
  pub short : AllByRecursion (λ key. length key ≤ 1024) keys

-- The text is a list of these keys: it begins with no byte order mark, and its lines stand for them.
pub record IsKeyList (notation : Notation) (text : List ℕ) (keys : List (List ℕ)) : Type 0 where
  pub unmarked : IsMarked notation text → ⊥
  pub are : AreKeysOf notation (lines_of text) keys

-- The position of the last of the keys, or before all keys where there is none.
abbrev pub last_of : List (List ℕ) → Position
last_of [] = None
last_of (key ∷ []) = Some key
last_of (key ∷ next ∷ keys) = last_of (next ∷ keys)

-- Behind these keys the line stands for this one, which is greater, and not too long.
pub record IsNextKey (notation : Notation) (keys : List (List ℕ)) (line key : List ℕ) : Type 0 where
  pub written : IsWritten notation line key
  pub short : length key ≤ 1024
  pub rises : is_before (last_of keys) (Some key) ≡ true

-- The line stands for a key that is too long.
pub record IsLongKey (notation : Notation) (line : List ℕ) : Type 0 where
  pub key : List ℕ
  pub written : IsWritten notation line key
  pub over : 1024 < length key

-- Behind these keys the line stands for a key that is not too long, and not greater.
pub record IsLowKey (notation : Notation) (keys : List (List ℕ)) (line : List ℕ) : Type 0 where
  pub key : List ℕ
  pub written : IsWritten notation line key
  pub short : length key ≤ 1024
  pub low : is_before (last_of keys) (Some key) ≡ false

-- What is wrong with a line behind those of these keys; want of memory may come at any line.
abbrev pub IsWrongNext : Notation → List (List ℕ) → List ℕ → KeyFlaw → Type 0
IsWrongNext notation keys line flaws.Memory = Unit {0}
IsWrongNext notation keys line flaws.Bad = (key : List ℕ) → IsWritten notation line key → ⊥
IsWrongNext notation keys line flaws.TooLong = IsLongKey notation line
IsWrongNext notation keys line flaws.NotRising = IsLowKey notation keys line

-- The text begins with no byte order mark. The line of this number is the first at which it is no list
-- of such keys, and this is what is wrong with it.
pub record IsFirstWrongKey (notation : Notation) (text : List ℕ) (number : ℕ) (flaw : KeyFlaw)
    : Type 0 where
  pub unmarked : IsMarked notation text → ⊥
  pub before : List (List ℕ)
  pub line : List ℕ
  pub after : List (List ℕ)
  pub whole : lines_of text ≡ before ++ line ∷ after
  pub number_is : number ≡ length before
  pub keys : List (List ℕ)
  pub are : AreKeysOf notation before keys
  pub wrong : IsWrongNext notation keys line flaw

-- The fault names that line; or the byte order mark with which the text begins.
abbrev pub IsKeysFault : Notation → List ℕ → KeysFault → Type 0
IsKeysFault notation text faults.Memory = Unit {0}
IsKeysFault notation text faults.ByteOrderMark = IsMarked notation text
IsKeysFault notation text (faults.BadLine line) =
    (notation ≡ Hex) × IsFirstWrongKey notation text line flaws.Bad
IsKeysFault notation text (faults.BadText line) =
    (notation ≡ Text) × IsFirstWrongKey notation text line flaws.Bad
IsKeysFault notation text (faults.KeyTooLong line) =
    IsFirstWrongKey notation text line flaws.TooLong
IsKeysFault notation text (faults.NotRising line) =
    IsFirstWrongKey notation text line flaws.NotRising

-- A line that is no key, in this notation.
abbrev pub bad_key_line : Notation → ℕ → KeysFault
bad_key_line Hex line = faults.BadLine line
bad_key_line Text line = faults.BadText line

-- A flaw at a line.
abbrev pub key_fault_at : Notation → KeyFlaw → ℕ → KeysFault
key_fault_at notation flaws.Memory line = faults.Memory
key_fault_at notation flaws.Bad line = bad_key_line notation line
key_fault_at notation flaws.TooLong line = faults.KeyTooLong line
key_fault_at notation flaws.NotRising line = faults.NotRising line
