-- Lines, and the records that they stand for. (This project's format.)
use Rattle.std.specs.Prelude.{◌≡◌, ◌≢◌, ℕ, ◌<◌, ◌≤◌, ◌==◌, Bool, true, false, List, [], ◌∷◌, ◌++◌}
use Rattle.std.specs.Prelude.{length, Option, Some, None, if◌then◌else◌}
use Rattle.std.specs.List.{AllByRecursion}
use Rattle.prolly_text.specs.Notations.{IsWritten, separator}
use Rattle.prolly_text.specs.declared.notation.Notation.{Notation}
use Rattle.prolly_text.specs.declared.notation.Notation.TheVariants.{Hex, Text}
use Rattle.prolly_tree.specs.Split.{in_front}
use Rattle.prolly_text.specs.declared.lines.form.LineForm.{LineForm}

-- The lines of a text: it is cut at newlines. A last line without a newline counts, and the empty
-- rest behind a last newline does not.
abbrev pub lines_of : List ℕ → List (List ℕ)
lines_of [] = []
lines_of (b ∷ text) = if b == 0x0A then [] ∷ lines_of text else in_front b (lines_of text)

-- Lines in hexadecimal, of which a dash marks a removal.
abbrev pub hex_lines : LineForm
hex_lines = record { notation = Hex; removals = false }

-- A text begins with a byte order mark, which is looked for in text alone.
abbrev pub IsMarked : Notation → List ℕ → Type 0
IsMarked Hex text = ⊥
IsMarked Text text = (rest : List ℕ) × (text ≡ 0xEF ∷ 0xBB ∷ 0xBF ∷ rest)

-- The line is a key and a value, with a separator between them. Neither has one within, so the line
-- has no other one.
pub record IsPairLine (notation : Notation) (line key value : List ℕ) : Type 0 where
  pub key_text : List ℕ
  pub value_text : List ℕ
  pub is : line ≡ key_text ++ separator notation ∷ value_text
  pub key_is : IsWritten notation key_text key
  pub value_is : IsWritten notation value_text value

-- The line is a key in hexadecimal, a space and a dash.
pub record IsDashLine (line key : List ℕ) : Type 0 where
  pub key_text : List ℕ
  pub is : line ≡ key_text ++ 0x20 ∷ 0x2D ∷ []
  pub key_is : IsWritten Hex key_text key

-- A line without a separator is read as the key that it removes.
abbrev pub reads_bare_keys : Notation → Bool → Bool
reads_bare_keys Hex removals = false
reads_bare_keys Text removals = removals

-- The line removes a key: in hexadecimal there is a dash behind the key, and in text, where
-- removals are looked for, the line is the key alone.
abbrev pub IsRemovalLine : Notation → Bool → List ℕ → List ℕ → Type 0
IsRemovalLine Hex removals line key = IsDashLine line key
IsRemovalLine Text true line key = IsWritten Text line key
IsRemovalLine Text false line key = ⊥

-- The line stands for a key and what is said of it.
abbrev pub IsLineOf : LineForm → List ℕ → List ℕ → Option (List ℕ) → Type 0
IsLineOf form line key (Some value) = IsPairLine form.notation line key value
IsLineOf form line key None = IsRemovalLine form.notation form.removals line key

-- The texts lie before and behind the line's first separator.
pub record CutsAt (byte : ℕ) (line key_text change_text : List ℕ) : Type 0 where
  pub is : line ≡ key_text ++ byte ∷ change_text
  pub none : AllByRecursion (λ b. b ≢ byte) key_text

-- The line stands for nothing.
abbrev pub IsBadLine : LineForm → List ℕ → Type 0
IsBadLine form line = (key : List ℕ) (change : Option (List ℕ)) → IsLineOf form line key change → ⊥

-- The line stands for a key that is too long.
pub record IsLongKeyLine (form : LineForm) (line : List ℕ) : Type 0 where
  pub key : List ℕ
  pub change : Option (List ℕ)
  pub is : IsLineOf form line key change
  pub over : 1024 < length key

-- The line stands for a key that is not too long, and a value that is.
pub record IsLongValueLine (form : LineForm) (line : List ℕ) : Type 0 where
  pub key : List ℕ
  pub value : List ℕ
  pub is : IsLineOf form line key (Some value)
  pub within : length key ≤ 1024
  pub over : 65536 < length value
