-- How a line shows the name of a file. (This project's form.)
use Rattle.std.specs.Prelude.{ℕ, List, [], ◌∷◌, ◌==◌, if◌then◌else◌}
use Rattle.std.specs.List.{flat_map, AllByRecursion}
use Rattle.std.specs.Str.{chars, IsUtf8}
use Rattle.prolly_entry.specs.Byte.{IsByte}
use Rattle.prolly_text.specs.Escapes.{shown_plain}
use Rattle.prolly_text.specs.Notations.{IsShown}
use Rattle.prolly_text.specs.Pieces.{IsTextOf}

-- A character of a name: a backslash as two, a hidden one as the digits of its bytes, and every
-- other one as it stands.
abbrev pub shown_in_name : ℕ → List ℕ
shown_in_name character =
    if character == 0x5C then 0x5C ∷ 0x5C ∷ [] else shown_plain character

-- A name as a line shows it.
abbrev pub shown_name : List ℕ → List ℕ
shown_name name = flat_map shown_in_name (chars name)

-- Law: what a line shows of a name stands for that name, as text, and has no hidden character.
abbrev pub NamesShow : Type 0
NamesShow = (name : List ℕ) → IsUtf8 name → AllByRecursion IsByte name →
    IsTextOf (shown_name name) name × IsShown (shown_name name)
