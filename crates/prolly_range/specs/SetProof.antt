-- The proof of what a map has at the keys of a set. (This project's format.)
use Rattle.std.specs.Prelude.{◌≡◌, ℕ, zero, suc, ◌+◌, ◌⊎◌, List, [], ◌∷◌, ◌++◌, map, Option, Some}
use Rattle.std.specs.Prelude.{None}
use Rattle.std.specs.List.{AllByRecursion, flat_map}
use Rattle.prolly_look_up.specs.Entries.{Child}
use Rattle.prolly_look_up.specs.Content.{chunk_bytes}
use Rattle.prolly_look_up.specs.Kinds.{Entries, kind_of}
use Rattle.prolly_look_up.specs.Kinds.Entries.{Leaf, Node}
use Rattle.prolly_look_up.specs.Way.{Clash, FallsTo, IsNamed, level_of}
use Rattle.prolly_entry.specs.Cut.{sha512_cut}
use Rattle.prolly_entry.specs.Pair.{Pair, IsPair}
use Rattle.prolly_entry.specs.Version.{version_byte}
use Rattle.prolly_entry.specs.declared.version.Version.{Version}
use Rattle.prolly_io.specs.Frame.{framed, IsSmall}
use Rattle.prolly_tree.specs.Difference.{IsMap}
use Rattle.prolly_tree.specs.File.{root_reference}
use Rattle.prolly_tree.specs.Tree.{Tree, bytes_of, greatest_key, tree_of}
use Rattle.prolly_range.specs.KeySet.{KeySet, Met, met_in, pairs_wanted}

-- ---- the proof of a map

-- The chunks of a tree that a set of keys meets: that of its top, and behind it those of each child
-- in which keys of the set are sought, from left to right.
abbrev pub chunks_met : Version → (level : ℕ) → Tree level → KeySet → List (List ℕ)
chunks_met version zero leaf set = bytes_of version zero leaf ∷ []
chunks_met version (suc level) ts set = bytes_of version (suc level) ts ∷
    flat_map (λ m. chunks_met version level m.item m.set) (met_in (greatest_key level) 0 (Some set) ts)

-- What the proof of a set of keys begins with: the letters PRLP, and 16 more than the byte of the
-- version of its chunks.
abbrev pub set_start : Version → List ℕ
set_start version = 0x50 ∷ 0x52 ∷ 0x4C ∷ 0x50 ∷ (0x10 + version_byte version) ∷ []

-- The file of these chunks: that, and the frame of each.
abbrev pub set_file : Version → List (List ℕ) → List ℕ
set_file version chunks = set_start version ++ flat_map framed chunks

-- The proof of what the map has at the keys of the set, whose tree is cut with so many bits.
abbrev pub set_proof : Version → ℕ → List Pair → KeySet → List ℕ
set_proof version bits m set =
    let root = tree_of (sha512_cut bits) version m in
    set_file version (chunks_met version root.level root.tree set)

-- ---- for who knows the root alone

-- A chunk that is due: its reference, the level of the chunk above it, and what is sought there.
pub record Due : Type 0 where
  pub reference : List ℕ
  pub above : Option ℕ
  pub set : KeySet

-- At first the root is due.
abbrev pub root_due : List ℕ → KeySet → Due
root_due root set = record { reference = root; above = None; set = set }

-- A child of a node of this level in which keys are sought.
abbrev pub child_due : ℕ → Met Child → Due
child_due level met = record {
  reference = met.item.reference;
  above = Some level;
  set = met.set;
}

-- What is due below a chunk of this level with these entries.
abbrev pub due_below : ℕ → KeySet → Entries → List Due
due_below level set (Leaf pairs) = []
due_below level set (Node children) =
    map (child_due level) (met_in (λ c. c.key) 0 (Some set) children)

-- The pairs of a chunk with these entries whose keys are of the set. A node holds no pair.
abbrev pub pairs_there : KeySet → Entries → List Pair
pairs_there set (Leaf pairs) = pairs_wanted set pairs
pairs_there set (Node children) = []

-- The chunk is the first of those that are due, and can be read; it shows these pairs, and what is
-- due below it is due next.
pub record Takes (version : Version) (old : List Due) (chunk : List ℕ) (pairs : List Pair)
    (new : List Due) : Type 0 where
  pub first : Due
  pub others : List Due
  pub was : old ≡ first ∷ others
  pub named : IsNamed version first.reference chunk
  pub falls : FallsTo first.above chunk
  pub shows : pairs ≡ pairs_there first.set (kind_of version chunk)
  pub is : new ≡ due_below (level_of chunk) first.set (kind_of version chunk) ++ others

-- The chunks are taken one after another, and show these pairs together; behind them so much is due.
abbrev pub AreTaken : Version → List Due → List (List ℕ) → List Pair → List Due → Type 0
AreTaken version due [] pairs rest = (due ≡ rest) × (pairs ≡ [])
AreTaken version due (chunk ∷ chunks) pairs rest =
    (shown : List Pair) × (others : List Pair) × (next : List Due) ×
    Takes version due chunk shown next × AreTaken version next chunks others rest ×
    (pairs ≡ shown ++ others)

-- The bytes are a proof of what the tree with the root of this reference has at the keys of the set:
-- these pairs, and no other.
pub record IsSetProof (version : Version) (root : List ℕ) (set : KeySet) (bytes : List ℕ)
    (pairs : List Pair) : Type 0 where
  pub chunks : List (List ℕ)
  pub small : AllByRecursion IsSmall chunks
  pub is : bytes ≡ set_file version chunks
  pub taken : AreTaken version (root_due root set ∷ []) chunks pairs []

-- ---- what it proves

-- The pairs are the first ones of the map whose keys are of the set, and the chunks the first ones
-- of the proof of that; and all of them, where nothing is due behind them.
pub record AreFirstOf (version : Version) (bits : ℕ) (m : List Pair) (set : KeySet)
    (chunks : List (List ℕ)) (pairs : List Pair) (due : List Due) : Type 0 where
  pub more_pairs : List Pair
  pub more_chunks : List (List ℕ)
  pub pairs_are : pairs_wanted set m ≡ pairs ++ more_pairs
  pub chunks_are : chunks_met version (tree_of (sha512_cut bits) version m).level
      (tree_of (sha512_cut bits) version m).tree set ≡ chunks ++ more_chunks
  pub all : due ≡ [] → (more_pairs ≡ []) × (more_chunks ≡ [])

-- Law: what chunks show that were taken one after another from the root of a map on, the map has,
-- whatever the bits of its tree: its first pairs whose keys are of the set, and all of them where
-- nothing is due any more; or else one of the chunks and a different one of the tree have one
-- reference.
abbrev pub TakenAreRight : Type 0
TakenAreRight = (version : Version) (bits : ℕ) (m : List Pair) (set : KeySet)
    (chunks : List (List ℕ)) (pairs : List Pair) (due : List Due) → IsMap m →
    AllByRecursion IsPair m →
    AreTaken version (root_due (root_reference (sha512_cut bits) version m) set ∷ []) chunks pairs
    due → AreFirstOf version bits m set chunks pairs due ⊎ Clash chunks (chunk_bytes version bits m)

-- A chunk of the proof and a different one of these have one reference.
pub record ShowsClash (version : Version) (bytes : List ℕ) (others : List (List ℕ)) : Type 0 where
  pub chunks : List (List ℕ)
  pub is : bytes ≡ set_file version chunks
  pub clash : Clash chunks others

-- Law: a proof for the root of a map shows just the pairs of the map whose keys are of the set, and
-- is the one proof of that; or else a chunk of it and a different one of the tree have one reference.
abbrev pub SetProofsAreRight : Type 0
SetProofsAreRight = (version : Version) (bits : ℕ) (m : List Pair) (set : KeySet) (bytes : List ℕ)
    (pairs : List Pair) → IsMap m → AllByRecursion IsPair m →
    IsSetProof version (root_reference (sha512_cut bits) version m) set bytes pairs →
    ((pairs ≡ pairs_wanted set m) × (bytes ≡ set_proof version bits m set))
    ⊎ ShowsClash version bytes (chunk_bytes version bits m)
