-- The chunks of a tree, in the order in which a file has them. (This project's format.)
use Rattle.std.specs.Prelude.{◌≡◌, ℕ, zero, suc, ◌+◌, ◌*◌, ◌≤◌, Bool, ◌&&◌, List, [], ◌∷◌, ◌++◌}
use Rattle.std.specs.Prelude.{length, map, if◌then◌else◌, ◌⊎◌}
use Rattle.std.specs.List.{flat_map, list_all, AllByRecursion}
use Rattle.prolly_entry.specs.declared.version.Version.{Version}
use Rattle.prolly_entry.specs.Keys.{Rising}
use Rattle.prolly_entry.specs.Pair.{Pair, IsPair}
use Rattle.prolly_entry.specs.Reference.{reference_of}
use Rattle.prolly_entry.specs.Cut.{Cut}
use Rattle.prolly_tree.specs.Split.{is_closed}
use Rattle.prolly_tree.specs.Tree.{Tree, greatest_key, pair_count, bytes_of, pair_is_boundary}
use Rattle.prolly_tree.specs.Tree.{child_is_boundary, tree_of}

-- A chunk: its level, its greatest key, the number of pairs below it, its bytes. Its reference is
-- that of its bytes.
pub record Chunk : Type 0 where
  pub level : ℕ
  pub key : List ℕ
  pub count : ℕ
  pub bytes : List ℕ

-- The chunk of a tree's top.
abbrev pub chunk_of : Version → (level : ℕ) → Tree level → Chunk
chunk_of version level tree = record {
  level = level;
  key = greatest_key level tree;
  count = pair_count level tree;
  bytes = bytes_of version level tree;
}

-- The post-order of a tree: the chunks of the children from left to right, then the node's.
abbrev pub post_order : Version → (level : ℕ) → Tree level → List Chunk
post_order version zero leaf = chunk_of version 0 leaf ∷ []
post_order version (suc level) children =
    flat_map (post_order version level) children ++ chunk_of version (suc level) children ∷ []

-- A leaf is closed where its group is closed, so the leaf without pairs is not; a node is closed
-- where its group and all of its children are.
abbrev pub is_closed_tree : Cut → Version → (level : ℕ) → Tree level → Bool
is_closed_tree cut version zero leaf = is_closed (pair_is_boundary cut) 1 leaf
is_closed_tree cut version (suc level) children =
    is_closed (child_is_boundary cut version level) 2 children && list_all
    (is_closed_tree cut version level) children

-- The closed chunks of the post-order, in that order.
abbrev pub closed_post_order : Cut → Version → (level : ℕ) → Tree level → List Chunk
closed_post_order cut version zero leaf =
    if is_closed_tree cut version 0 leaf then chunk_of version 0 leaf ∷ [] else []
closed_post_order cut version (suc level) children =
    flat_map (closed_post_order cut version level) children
    ++ (if is_closed_tree cut version (suc level) children then chunk_of version (suc level)
    children ∷ [] else [])

-- The chunks of a map's tree.
abbrev pub chunks : Cut → Version → List Pair → List Chunk
chunks cut version m = post_order version (tree_of cut version m).level (tree_of cut version m).tree

-- The chunks of a map's tree that are closed.
abbrev pub begun_chunks : Cut → Version → List Pair → List Chunk
begun_chunks cut version m = closed_post_order cut version (tree_of cut version m).level
    (tree_of cut version m).tree

-- Law: the tree of n pairs has at most 3 n + 1 chunks.
abbrev pub FewChunks : Cut → Version → Type 0
FewChunks cut version = (m : List Pair) → length (chunks cut version m) ≤ 3 * length m + 1

-- The chunks of the list are all different as bytes.
abbrev pub AllDiffer : List Chunk → Type 0
AllDiffer [] = Unit {0}
AllDiffer (c ∷ cs) = AllByRecursion (λ d. c.bytes ≡ d.bytes → ⊥) cs × AllDiffer cs

-- Law: the chunks of a map are all different as bytes.
abbrev pub ChunksDiffer : Cut → Version → Type 0
ChunksDiffer cut version = (m : List Pair) → AllByRecursion IsPair m → Rising (map (λ p. p.key) m) →
    AllDiffer (chunks cut version m)

-- The list has the element.
abbrev pub IsIn : {A : Type 0} → A → List A → Type 0
IsIn x [] = ⊥
IsIn x (y ∷ ys) = (x ≡ y) ⊎ IsIn x ys

-- A collision: a chunk of the one list and a different chunk of the other share a reference.
pub record Collision (xs ys : List Chunk) : Type 0 where
  pub one : Chunk
  pub other : Chunk
  pub in_one : IsIn one xs
  pub in_other : IsIn other ys
  pub differ : one.bytes ≡ other.bytes → ⊥
  pub same : reference_of one.bytes ≡ reference_of other.bytes
