-- The leaves below a tree. (This project's rules.)
use Rattle.std.specs.Prelude.{◌≡◌, ℕ, zero, suc, List, [], ◌∷◌}
use Rattle.std.specs.List.{flat_map}
use Rattle.prolly_entry.specs.declared.version.Version.{Version}
use Rattle.prolly_entry.specs.Cut.{Cut}
use Rattle.prolly_entry.specs.Pair.{Pair}
use Rattle.prolly_tree.specs.Tree.{Tree, tree_of, leaves}

-- The leaves below a tree, from left to right; of a leaf itself that one.
abbrev pub leaves_below : (level : ℕ) → Tree level → List (List Pair)
leaves_below zero leaf = leaf ∷ []
leaves_below (suc level) children = flat_map (leaves_below level) children

-- Law: the leaves below the tree of a map are those of the map.
abbrev pub KeepsLeaves : Cut → Version → Type 0
KeepsLeaves cut version = (m : List Pair) → leaves_below (tree_of cut version m).level
    (tree_of cut version m).tree ≡ leaves cut m
