-- What is left of a tree, for who knows its chunks by their references alone.
use Rattle.std.specs.Prelude.{◌≡◌, ℕ, ◌^◌, ◌<◌, List, [], ◌∷◌, ◌++◌, map, length}
use Rattle.std.specs.Prelude.{None, ◌⊎◌}
use Rattle.std.specs.List.{flat_map, AllByRecursion}
use Rattle.prolly_entry.specs.Cut.{sha512_cut}
use Rattle.prolly_entry.specs.Overlay.{change_of}
use Rattle.prolly_entry.specs.Pair.{Pair, IsPair}
use Rattle.prolly_entry.specs.Record.{Record}
use Rattle.prolly_entry.specs.Reference.{reference_of}
use Rattle.prolly_entry.specs.declared.version.Version.{Version}
use Rattle.prolly_tree.specs.Difference.{IsDifference, IsMap}
use Rattle.prolly_tree.specs.File.{root_reference}
use Rattle.prolly_tree.specs.Tree.{LeveledTree, bytes_of, last_key, pairs_below}
use Rattle.prolly_tree.specs.lemmas.Maps.{Above, HasKey}
use Rattle.prolly_look_up.specs.MapTree.{IsTreeOf}
use Rattle.prolly_look_up.specs.Entries.{Child}
use Rattle.prolly_look_up.specs.Content.{chunk_bytes}
use Rattle.prolly_look_up.specs.Kinds.{Entries, kind_of}
use Rattle.prolly_look_up.specs.Way.{Clash, IsNamed, level_of}
use Rattle.prolly_look_up.specs.Kinds.Entries.{Leaf, Node}
use Rattle.prolly_tree.specs.Walks.{AreAlike, Maps}

-- ---- what is left of one tree

-- A subtree that is due: its reference, and a number that its top's level is below.
pub record Due : Type 0 where
  pub reference : List ℕ
  pub bound : ℕ

-- What is left: the pairs in hand, and behind them the subtrees that are due.
pub record Left : Type 0 where
  pub pairs : List Pair
  pub due : List Due

-- The pairs below trees, from left to right.
abbrev pub pairs_of : List LeveledTree → List Pair
pairs_of trees = flat_map (λ t. pairs_below t.level t.tree) trees

-- The references of their tops.
abbrev pub tops_of : Version → List LeveledTree → List (List ℕ)
tops_of version trees = map (λ t. reference_of (bytes_of version t.level t.tree)) trees

-- The pairs are those that are left of the map of a tree with these chunks: those in hand, and those
-- of subtrees of it whose tops have the references that are due.
pub record IsLeft (version : Version) (chunks : List (List ℕ)) (pairs : List Pair) (left : Left)
    : Type 0 where
  pub trees : List LeveledTree
  pub each : AllByRecursion (λ t. IsTreeOf version chunks t.level t.tree) trees
  pub named : tops_of version trees ≡ map (λ d. d.reference) left.due
  pub are : pairs ≡ left.pairs ++ pairs_of trees

-- ---- beginning, and going down

-- Nothing is in hand yet, and the root is due. (A level is a byte.)
abbrev pub left_of_root : List ℕ → Left
left_of_root root = record { pairs = []; due = record { reference = root; bound = 256 } ∷ [] }

-- The references of the children of a node. A leaf has none.
abbrev pub references_in : Entries → List (List ℕ)
references_in (Leaf pairs) = []
references_in (Node children) = map (λ c. c.reference) children

-- The subtrees of a node's children are due.
abbrev pub due_of : ℕ → List Child → List Due
due_of level children = map (λ c. record { reference = c.reference; bound = level }) children

-- What is left where the chunk with these entries is taken in the place of the first subtree: the
-- pairs of a leaf are in hand then, and the children of a node are due before the others.
abbrev pub opened : ℕ → Entries → List Due → Left
opened level (Leaf pairs) due = record { pairs = pairs; due = due }
opened level (Node children) due = record { pairs = []; due = due_of level children ++ due }

-- Law: what is left of a tree at its root is its map.
abbrev pub BeginsAtRoot : Type 0
BeginsAtRoot = (version : Version) (bits : ℕ) (m : List Pair) → IsMap m → AllByRecursion IsPair m →
    IsLeft version (chunk_bytes version bits m) m
    (left_of_root (root_reference (sha512_cut bits) version m))

-- Law: where a chunk has the reference of the first subtree and can be read, what is left stays the
-- same; or else the chunk and a different one of the tree have one reference.
abbrev pub OpensFirst : Type 0
OpensFirst = (version : Version) (chunks : List (List ℕ)) (pairs : List Pair) (first : Due)
    (due : List Due) (chunk : List ℕ) (level : ℕ) →
    IsLeft version chunks pairs (record { pairs = []; due = first ∷ due }) →
    IsNamed version first.reference chunk →
    IsLeft version chunks pairs (opened level (kind_of version chunk) due)
    ⊎ Clash (chunk ∷ []) chunks

-- ---- passing by equal subtrees

-- Both maps begin with the same pairs, behind which these are left of the trees. So the difference
-- of what is left is that of the maps, it says nothing of the keys that were passed, and where some
-- were passed, the keys of what is left are above the last of them.
pub record PassBy (version : Version) (before after : List (List ℕ)) (maps : Maps)
    (left_before left_after : Left) : Type 0 where
  pub rest : Maps
  pub alike : AreAlike maps rest
  pub before_is : IsLeft version before rest.before left_before
  pub after_is : IsLeft version after rest.after left_after
  pub goes_on : (d : List Record) → IsDifference rest.before rest.after d →
      IsDifference maps.before maps.after d
  pub silent : (d : List Record) (key : List ℕ) → IsDifference maps.before maps.after d →
      HasKey key alike.shared → change_of d key ≡ None
  pub behind : 0 < length alike.shared → Above (last_key alike.shared) rest.before ×
      Above (last_key alike.shared) rest.after

-- Law: where nothing is in hand of two trees of any bits, and subtrees with the same references are
-- due next in both, they may be passed by; or else two different chunks, one of each tree, have one
-- reference.
abbrev pub PassesEqual : Type 0
PassesEqual = (version : Version) (before after : List (List ℕ)) (maps : Maps)
    (shared shared' due due' : List Due) → IsMap maps.before → IsMap maps.after →
    map (λ d. d.reference) shared ≡ map (λ d. d.reference) shared' →
    IsLeft version before maps.before (record { pairs = []; due = shared ++ due }) →
    IsLeft version after maps.after (record { pairs = []; due = shared' ++ due' }) →
    PassBy version before after maps (record { pairs = []; due = due })
    (record { pairs = []; due = due' })
    ⊎ Clash before after

-- ---- reading a chunk

-- A chunk was read in the place of the first subtree, which has its reference and can be read, and
-- whose level is below the number that stood there.
pub record Opens (version : Version) (old new : Left) : Type 0 where
  pub first : Due
  pub due : List Due
  pub chunk : List ℕ
  pub was : old ≡ record { pairs = []; due = first ∷ due }
  pub named : IsNamed version first.reference chunk
  pub falls : level_of chunk < first.bound
  pub short : length chunk < 2 ^ 64
  pub is : new ≡ opened (level_of chunk) (kind_of version chunk) due
