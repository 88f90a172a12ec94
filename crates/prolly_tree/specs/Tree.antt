-- The prolly tree of a map. (The tree is that of the Noms documentation; the fields of a child
-- entry are this project's.)
use Rattle.std.specs.Prelude.{◌≡◌, ℕ, zero, suc, ◌^◌, ◌<◌, ◌≤◌, Bool, List, [], ◌∷◌, length}
use Rattle.std.specs.List.{flat_map}
use Rattle.prolly_entry.specs.declared.version.Version.{Version}
use Rattle.prolly_entry.specs.Pair.{Pair}
use Rattle.prolly_entry.specs.Spelling.{pair_spelling, child_spelling}
use Rattle.prolly_entry.specs.Reference.{reference_of}
use Rattle.prolly_entry.specs.Cut.{Cut}
use Rattle.prolly_tree.specs.Split.{split}

-- A tree of level 0, a leaf, is a list of pairs. A tree of a level above, a node, is a list of
-- child trees of the level below it. (A node's child entries are made from its children:
-- `child_entry`.)
abbrev pub Tree : ℕ → Type 0
Tree zero = List Pair
Tree (suc level) = List (Tree level)

-- The pairs below a tree, from left to right.
abbrev pub pairs_below : (level : ℕ) → Tree level → List Pair
pairs_below zero leaf = leaf
pairs_below (suc level) children = flat_map (pairs_below level) children

-- The key of the last pair; the empty key where there is none.
abbrev pub last_key : List Pair → List ℕ
last_key [] = []
last_key (p ∷ []) = p.key
last_key (p ∷ q ∷ ps) = last_key (q ∷ ps)

-- The greatest key: the key of the last pair below, and the empty key for a leaf without pairs.
abbrev pub greatest_key : (level : ℕ) → Tree level → List ℕ
greatest_key level tree = last_key (pairs_below level tree)

-- The number of pairs below.
abbrev pub pair_count : (level : ℕ) → Tree level → ℕ
pair_count level tree = length (pairs_below level tree)

-- The bytes of a tree's top: the level, then the spellings of its entries, for a leaf pairs, for a
-- node one child entry a child.
abbrev pub bytes_of : Version → (level : ℕ) → Tree level → List ℕ
bytes_of version zero leaf = 0 ∷ flat_map pair_spelling leaf
bytes_of version (suc level) children = suc level ∷ flat_map (λ child. child_spelling version
    (greatest_key level child) (reference_of (bytes_of version level child))
    (pair_count level child)) children

-- The entry of a child: its greatest key, the reference of its bytes, the number of pairs below it.
abbrev pub child_entry : Version → (level : ℕ) → Tree level → List ℕ
child_entry version level child = child_spelling version
    (greatest_key level child) (reference_of (bytes_of version level child))
    (pair_count level child)

-- Which pairs are boundaries in a leaf, by their spellings.
abbrev pub pair_is_boundary : Cut → Pair → Bool
pair_is_boundary cut p = cut.is_boundary (pair_spelling p)

-- Which children are boundaries in a node, by their entries.
abbrev pub child_is_boundary : Cut → Version → (level : ℕ) → Tree level → Bool
child_is_boundary cut version level child = cut.is_boundary (child_entry version level child)

-- The leaves that groups of pairs are: one for each; and where there is none, one without pairs.
abbrev pub leaves_of : List (List Pair) → List (Tree 0)
leaves_of [] = [] ∷ []
leaves_of (leaf ∷ leaves) = leaf ∷ leaves

-- The leaves of a map: one for each group of the split of its pairs with `least` 1; for the empty
-- map one leaf without pairs.
abbrev pub leaves : Cut → List Pair → List (Tree 0)
leaves cut m = leaves_of (split (pair_is_boundary cut) 1 m)

-- The nodes above trees: one for each group of the split of their child entries with `least` 2.
abbrev pub nodes : Cut → Version → (level : ℕ) → List (Tree level) → List (Tree (suc level))
nodes cut version level trees = split (child_is_boundary cut version level) 2 trees

-- A tree together with its level.
pub record LeveledTree : Type 0 where
  pub level : ℕ
  pub tree : Tree level

-- What trees grow to: the tree itself where there is one, else what the nodes above them grow to.
-- Each step leaves fewer trees, so as many steps as there are trees are enough; the law below says
-- that their number does not matter.
abbrev pub grow_within : ℕ → Cut → Version → (level : ℕ) → List (Tree level) → LeveledTree
grow_within steps cut version level [] = record { level = 0; tree = [] }
grow_within steps cut version level (tree ∷ []) = record { level = level; tree = tree }
grow_within zero cut version level (tree ∷ next ∷ trees) = record { level = level; tree = tree }
grow_within (suc steps) cut version level (tree ∷ next ∷ trees) =
    grow_within steps cut version (suc level) (nodes cut version level (tree ∷ next ∷ trees))

-- What trees grow to, in as many steps as there are trees.
unfoldable pub grow : Cut → Version → (level : ℕ) → List (Tree level) → LeveledTree
grow cut version level trees = grow_within (length trees) cut version level trees

-- Law: one tree grows to itself; two or more grow to what the nodes above them grow to, and these
-- are fewer.
abbrev pub GrowsByNodes : Cut → Version → Type 0
GrowsByNodes cut version =
    ((level : ℕ) (tree : Tree level) → grow cut version level (tree ∷ []) ≡ record {
      level = level;
      tree = tree;
    })
    × ((level : ℕ) (trees : List (Tree level)) → 2 ≤ length trees →
    (grow cut version level trees ≡ grow cut version (suc level) (nodes cut version level trees))
    × (length (nodes cut version level trees) < length trees))

-- The tree of a map: what its leaves grow to.
abbrev pub tree_of : Cut → Version → List Pair → LeveledTree
tree_of cut version m = grow cut version 0 (leaves cut m)

-- The number of its levels, the leaves counted as one.
abbrev pub level_count : Cut → Version → List Pair → ℕ
level_count cut version m = suc (tree_of cut version m).level

-- Law: the pairs below the tree of a map are the map.
abbrev pub KeepsPairs : Cut → Version → Type 0
KeepsPairs cut version = (m : List Pair) → pairs_below (tree_of cut version m).level
    (tree_of cut version m).tree ≡ m

-- Law: a map of at most 2 ^ k pairs has at most k + 1 levels.
abbrev pub FewLevels : Cut → Version → Type 0
FewLevels cut version = (m : List Pair) (k : ℕ) → length m ≤ 2 ^ k →
    level_count cut version m ≤ suc k
