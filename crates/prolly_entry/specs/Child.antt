-- Children of a node, as their entries say them. (This project's format.)
use Rattle.std.specs.Prelude.{◌≡◌, ℕ, ◌≤◌, List, length, take}
use Rattle.std.specs.Int.{w64, from_be_bytes}
use Rattle.prolly_entry.specs.declared.child.Child.{Child as Read}
use Rattle.prolly_entry.specs.declared.version.Version.{Version}
use Rattle.prolly_entry.specs.declared.version.Version.TheVariants.{One, Two}
use Rattle.prolly_entry.specs.Spelling.{child_spelling}

-- What a child entry says: the greatest key below the child, its reference, the number of pairs
-- below it.
pub record Child : Type 0 where
  pub key : List ℕ
  pub reference : List ℕ
  pub count : ℕ

-- The child entry is lawful.
pub record IsChild (child : Child) : Type 0 where
  pub key : length child.key ≤ 1024
  pub reference : length child.reference ≡ 20

-- Its spelling.
abbrev pub entry_of : Version → Child → List ℕ
entry_of version child = child_spelling version child.key child.reference child.count

-- What a child that was read says.
abbrev pub value_of : Read → Child
value_of child = record { key = child.key.now; reference = child.reference.0; count = child.count }

-- The count that begins bytes. Version One has no count: it stands as 0.
abbrev pub first_count : Version → List ℕ → ℕ
first_count One bytes = 0
first_count Two bytes = from_be_bytes w64 (take 8 bytes)
