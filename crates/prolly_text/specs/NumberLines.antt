-- Lines that name what they tell.
use Rattle.std.specs.Prelude.{ℕ, List, [], ◌∷◌, ◌++◌, Option, Some, None}

-- A line: a name, a space and a text.
abbrev pub line_of : List ℕ → List ℕ → List ℕ
line_of name text = name ++ 0x20 ∷ text ++ 0x0A ∷ []

-- The line of a text where there is one, and else nothing.
abbrev pub optional_line : List ℕ → Option (List ℕ) → List ℕ
optional_line name None = []
optional_line name (Some text) = line_of name text
