-- The two ways in which the bytes of keys and values are written.
use Rattle.std.specs.Prelude.{◌≡◌, ◌≢◌, ℕ, List, Ok}
use Rattle.std.specs.List.{AllByRecursion}
use Rattle.std.specs.Str.{IsUtf8, NoCharPasses}
use Rattle.hex.specs.Hex.{decode_of, encode_lower}
use Rattle.prolly_entry.specs.Byte.{IsByte}
use Rattle.prolly_text.specs.Escapes.{is_hidden, text_of}
use Rattle.prolly_text.specs.Pieces.{IsTextOf}
use Rattle.prolly_text.specs.declared.notation.Notation.{Notation}
use Rattle.prolly_text.specs.declared.notation.Notation.TheVariants.{Hex, Text}
use Rattle.prolly_text.specs.declared.notation.TextFault.{TextFault}
use Rattle.prolly_text.specs.declared.notation.TextFault.TheVariants.{Memory, Bad}

-- The byte between a key and its value: a space, or a tab.
abbrev pub separator : Notation → ℕ
separator Hex = 0x20
separator Text = 0x09

-- What is written for bytes.
abbrev pub written : Notation → List ℕ → List ℕ
written Hex bytes = encode_lower bytes
written Text bytes = text_of bytes

-- The text stands for the bytes.
abbrev pub IsWritten : Notation → List ℕ → List ℕ → Type 0
IsWritten Hex text bytes = decode_of text ≡ Ok bytes
IsWritten Text text bytes = IsTextOf text bytes

-- Why a text is not read: it stands for no bytes, or memory is wanted, which may be at any text.
abbrev pub IsTextFault : Notation → List ℕ → TextFault → Type 0
IsTextFault notation text Memory = Unit {0}
IsTextFault notation text Bad = (bytes : List ℕ) → IsWritten notation text bytes → ⊥

-- ---- laws

-- Law: what is written for bytes stands for them.
abbrev pub WrittenIsRead : Type 0
WrittenIsRead = (notation : Notation) (bytes : List ℕ) → AllByRecursion IsByte bytes →
    IsWritten notation (written notation bytes) bytes

-- Law: a text stands for one list of bytes at most.
abbrev pub OneTextReading : Type 0
OneTextReading = (notation : Notation) (text a b : List ℕ) →
    IsWritten notation text a → IsWritten notation text b → a ≡ b

-- The byte is no newline, and not what stands between a key and its value.
abbrev pub StandsWithin : Notation → ℕ → Type 0
StandsWithin notation b = (b ≢ 0x0A) × (b ≢ separator notation)

-- Law: no text that stands for bytes has a newline, or what stands between a key and its value.
abbrev pub TextsStandApart : Type 0
TextsStandApart = (notation : Notation) (text bytes : List ℕ) → IsWritten notation text bytes →
    AllByRecursion (StandsWithin notation) text

-- The bytes are UTF-8, and none of their characters is hidden.
abbrev pub IsShown : List ℕ → Type 0
IsShown text = IsUtf8 text × NoCharPasses is_hidden text

-- Law: what is written is UTF-8, without a control character and without a byte order mark.
abbrev pub WrittenShows : Type 0
WrittenShows = (notation : Notation) (bytes : List ℕ) → AllByRecursion IsByte bytes →
    IsShown (written notation bytes)
