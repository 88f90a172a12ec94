-- The leaves that are left of a tree, for who knows its chunks by their references alone.
use Rattle.std.specs.Prelude.{◌≡◌, ℕ, ◌⊎◌, List, [], ◌∷◌, ◌++◌, map}
use Rattle.std.specs.List.{AllByRecursion, flat_map}
use Rattle.prolly_look_up.specs.MapTree.{IsTreeOf}
use Rattle.prolly_look_up.specs.Content.{chunk_bytes}
use Rattle.prolly_look_up.specs.HeldPairs.{pairs_held}
use Rattle.prolly_look_up.specs.Way.{Clash, IsNamed}
use Rattle.prolly_entry.specs.Cut.{Cut, sha512_cut}
use Rattle.prolly_entry.specs.Pair.{IsPair, Pair}
use Rattle.prolly_entry.specs.Prefix.{IsPrefix}
use Rattle.prolly_entry.specs.Reference.{reference_of}
use Rattle.prolly_entry.specs.declared.version.Version.{Version}
use Rattle.prolly_root.specs.ChunkFile.{ChunkFile}
use Rattle.prolly_tree.specs.Difference.{IsMap}
use Rattle.prolly_tree.specs.File.{root_reference}
use Rattle.prolly_tree.specs.Leaves.{leaves_below}
use Rattle.prolly_tree.specs.Tree.{LeveledTree, leaves}
use Rattle.prolly_root_diff.specs.DueTrees.{ReadsFirst, due_behind}
use Rattle.prolly_root_diff.specs.Left.{Due, left_of_root, tops_of}
use Rattle.prolly_root_diff.specs.FirstFault.{DueAt, ReadsEach, tree_at}
use Rattle.prolly_root_diff.specs.Walks.{Clashing}

-- ---- the leaves of a map

-- Those of the leaves that have pairs.
abbrev pub with_pairs : List (List Pair) → List (List Pair)
with_pairs [] = []
with_pairs ([] ∷ leaves) = with_pairs leaves
with_pairs ((p ∷ ps) ∷ leaves) = (p ∷ ps) ∷ with_pairs leaves

-- The leaves of the tree of a map that have pairs, from left to right. (The one leaf of the empty map
-- has none.)
abbrev pub full_leaves : Cut → List Pair → List (List Pair)
full_leaves cut m = with_pairs (leaves cut m)

-- The leaves that have pairs among chunks that were read.
abbrev pub leaves_on : List (List ℕ) → List (List Pair)
leaves_on read = with_pairs (map pairs_held read)

-- ---- what is left of a tree

-- The leaves below trees that have pairs, from left to right.
abbrev pub leaves_of_trees : List LeveledTree → List (List Pair)
leaves_of_trees trees = with_pairs (flat_map (λ t. leaves_below t.level t.tree) trees)

-- The leaves are those that are left of a tree with these chunks: those of subtrees of it whose tops
-- have the references that are due.
pub record AreLeavesLeft (version : Version) (chunks : List (List ℕ)) (leaves : List (List Pair))
    (due : List Due) : Type 0 where
  pub trees : List LeveledTree
  pub each : AllByRecursion (λ t. IsTreeOf version chunks t.level t.tree) trees
  pub named : tops_of version trees ≡ map (λ d. d.reference) due
  pub are : leaves ≡ leaves_of_trees trees

-- Law: at its root the leaves of a map are left of its tree.
abbrev pub LeavesBeginAtRoot : Type 0
LeavesBeginAtRoot = (version : Version) (bits : ℕ) (m : List Pair) → IsMap m →
    AllByRecursion IsPair m → AreLeavesLeft version (chunk_bytes version bits m)
    (full_leaves (sha512_cut bits) m)
    (left_of_root (root_reference (sha512_cut bits) version m)).due

-- The leaves begin with this one, where it has pairs, and the others are left.
pub record BeginWith (version : Version) (chunks : List (List ℕ)) (leaves : List (List Pair))
    (leaf : List Pair) (due : List Due) : Type 0 where
  pub others : List (List Pair)
  pub are : leaves ≡ with_pairs (leaf ∷ []) ++ others
  pub left : AreLeavesLeft version chunks others due

-- Law: where a chunk has the reference of the first subtree and can be read, the leaves that are left
-- begin with the pairs that it holds, where it holds some, and go on with what is due after it. Or
-- else the chunk and a different one of the tree have one reference.
abbrev pub LeavesOpenFirst : Type 0
LeavesOpenFirst = (version : Version) (chunks : List (List ℕ)) (leaves : List (List Pair))
    (first : Due) (due : List Due) (chunk : List ℕ) →
    AreLeavesLeft version chunks leaves (first ∷ due) → IsNamed version first.reference chunk →
    BeginWith version chunks leaves (pairs_held chunk) (due_behind version chunk due)
    ⊎ Clash (chunk ∷ []) chunks

-- ---- a walk over the leaves

-- The chunks were read one after another, each in the place of the first subtree that was due: it has
-- its reference, and can be read. So a walk came from the one to the other.
abbrev pub LeadDown : Version → List Due → List (List ℕ) → List Due → Type 0
LeadDown version old [] new = old ≡ new
LeadDown version old (chunk ∷ chunks) new = (mid : List Due) ×
    ReadsFirst version old (reference_of chunk) chunk mid × LeadDown version mid chunks new

-- A chunk of the tree with this root has the reference of a different chunk. That was read on the way
-- from the root down, where it was due in each file that the source goes over; or it is one of the
-- tree, too.
pub record FoundClashIn (goes_over : ChunkFile → Type 0) (version : Version) (root : List ℕ)
    (chunks : List (List ℕ)) : Type 0 where
  pub read : List (List ℕ)
  pub due : List Due
  pub lead : LeadDown version (left_of_root root).due read due
  pub comes : (file : ChunkFile) → goes_over file → (now : List DueAt) ×
      ReadsEach version file read (tree_at root) now
  pub clash : Clashing read chunks

-- Law: the leaves that a walk from a root read so far are the first leaves of any map with this
-- root, whatever the bits of its tree. Or else a chunk of the tree has the reference of a different
-- chunk, which the walk read or which is one of the tree.
abbrev pub FirstLeavesAreRight : Type 0
FirstLeavesAreRight = (version : Version) (bits : ℕ) (m : List Pair) (read : List (List ℕ))
    (due : List Due) → IsMap m → AllByRecursion IsPair m →
    LeadDown version (left_of_root (root_reference (sha512_cut bits) version m)).due read due →
    IsPrefix (leaves_on read) (full_leaves (sha512_cut bits) m)
    ⊎ Clashing read (chunk_bytes version bits m)

-- Law: those that it read until nothing was due are all of them.
abbrev pub AllLeavesAreRight : Type 0
AllLeavesAreRight = (version : Version) (bits : ℕ) (m : List Pair) (read : List (List ℕ)) →
    IsMap m → AllByRecursion IsPair m →
    LeadDown version (left_of_root (root_reference (sha512_cut bits) version m)).due read [] →
    (leaves_on read ≡ full_leaves (sha512_cut bits) m) ⊎ Clashing read (chunk_bytes version bits m)
