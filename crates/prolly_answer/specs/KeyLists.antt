-- Lists of keys, out of files.
use Rattle.std.specs.Prelude.{ℕ, List}
use Rattle.prolly_text.specs.KeyLines.{IsKeyList, IsKeysFault}
use Rattle.prolly_text.specs.declared.notation.Notation.{Notation}
use Rattle.prolly_answer.specs.Input.{IsInputFault, IsReadWhole}
use Rattle.prolly_fault.specs.declared.fault.Fault.{Fault}
use Rattle.prolly_fault.specs.declared.fault.Fault.TheVariants.{Keys}

-- The text was read whole, and is a list of these keys.
pub record ReadsKeys (notation : Notation) (text : List ℕ) (has_failed : Type 0)
    (keys : List (List ℕ)) : Type 0 where
  pub whole : IsReadWhole text has_failed
  pub is : IsKeyList notation text keys

-- There is no list of keys: the text can't be read; or it was read whole, and begins with a byte order
-- mark, or has a line that is at fault.
abbrev pub IsKeyListFault : Notation → List ℕ → Type 0 → Fault → Type 0
IsKeyListFault notation text has_failed (Keys fault) =
    IsReadWhole text has_failed × IsKeysFault notation text fault
IsKeyListFault notation text has_failed fault = IsInputFault text has_failed fault
