-- What the entries of a chunk are.
use Rattle.std.specs.Prelude.{ℕ, zero, suc, List, [], ◌∷◌}
use Rattle.prolly_entry.specs.Pair.{Pair}
use Rattle.prolly_entry.specs.declared.version.Version.{Version}
use Rattle.prolly_look_up.specs.Entries.{Child, pairs_in, children_in}

-- Those of a leaf are pairs, those of a node children.
pub data Entries : Type 0 where
  Leaf : List Pair → Entries
  Node : List Child → Entries

-- A chunk that was tested has a level, which tells which of them it has.
abbrev pub kind_of : Version → List ℕ → Entries
kind_of version [] = Leaf []
kind_of version (zero ∷ entries) = Leaf (pairs_in entries)
kind_of version (suc level ∷ entries) = Node (children_in version entries)
