-- The trees of a map, whose tops are its chunks.
use Rattle.std.specs.Prelude.{◌≡◌, ℕ, zero, suc, ◌<◌, List, ◌∷◌, ◌++◌, length, map}
use Rattle.std.specs.List.{AllByRecursion}
use Rattle.prolly_entry.specs.Pair.{Pair, IsPair}
use Rattle.prolly_entry.specs.declared.version.Version.{Version}
use Rattle.prolly_entry.specs.Cut.{sha512_cut}
use Rattle.prolly_entry.specs.Spelling.{count_spelling}
use Rattle.prolly_entry.specs.Reference.{reference_of}
use Rattle.prolly_tree.specs.Difference.{IsMap}
use Rattle.prolly_tree.specs.Tree.{Tree, pairs_below, greatest_key, pair_count, bytes_of, tree_of}
use Rattle.prolly_tree.specs.Chunk.{Chunk, chunks, post_order, IsIn}
use Rattle.prolly_look_up.specs.Entries.{Child, first_count}
use Rattle.prolly_look_up.specs.Content.{chunk_bytes}
use Rattle.prolly_look_up.specs.Kinds.{Entries, kind_of}
use Rattle.prolly_look_up.specs.Way.{IsOrdered}
use Rattle.prolly_look_up.specs.Kinds.Entries.{Leaf, Node}

-- The chunks of the tree are there.
abbrev pub HasTree : Version → List (List ℕ) → (level : ℕ) → Tree level → Type 0
HasTree version chunks level t = (c : Chunk) → IsIn c (post_order version level t) →
    IsIn c.bytes chunks

-- Each child of each node has pairs below it.
abbrev pub NodeFull : (level : ℕ) → Tree level → Type 0
NodeFull zero leaf = Unit {0}
NodeFull (suc level) ts = AllByRecursion (λ t. (0 < length (pairs_below level t)) ×
    NodeFull level t) ts

-- The tree is one of the chunks: they are there, its pairs are lawful and their keys rise, and each
-- child of each node has some.
pub record IsTreeOf (version : Version) (chunks : List (List ℕ)) (level : ℕ) (tree : Tree level)
    : Type 0 where
  pub has : HasTree version chunks level tree
  pub lawful : AllByRecursion IsPair (pairs_below level tree)
  pub rising : IsMap (pairs_below level tree)
  pub full : NodeFull level tree

-- What a node says of its child, the top of a tree.
abbrev pub child_of : Version → (level : ℕ) → Tree level → Child
child_of version level t = record {
  key = greatest_key level t;
  reference = reference_of (bytes_of version level t);
  count = first_count version (count_spelling version (pair_count level t));
}

-- The entries of the top of a tree.
abbrev pub entries_below : Version → (level : ℕ) → Tree level → Entries
entries_below version zero leaf = Leaf leaf
entries_below version (suc level) ts = Node (map (child_of version level) ts)

-- The whole tree of a map is one of its chunks.
abbrev pub RootIsTree : Type 0
RootIsTree = (version : Version) (bits : ℕ) (m : List Pair) → AllByRecursion IsPair m →
    IsMap m → IsTreeOf version (chunk_bytes version bits m)
    (tree_of (sha512_cut bits) version m).level (tree_of (sha512_cut bits) version m).tree

-- So is what is below a child of a node.
abbrev pub ChildIsTree : Version → Type 0
ChildIsTree version = (chunks : List (List ℕ)) (level : ℕ) (before after : List (Tree level))
    (t : Tree level) → IsTreeOf version chunks (suc level) (before ++ t ∷ after) →
    IsTreeOf version chunks level t

-- The chunk of such a tree's top can be read, and what is read are its entries.
abbrev pub TopIsRead : Version → Type 0
TopIsRead version = (chunks : List (List ℕ)) (level : ℕ) (t : Tree level) →
    IsTreeOf version chunks level t → IsOrdered version (bytes_of version level t) ×
    (kind_of version (bytes_of version level t) ≡ entries_below version level t)
