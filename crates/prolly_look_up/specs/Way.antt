-- The way of a look-up down a tree, by the references of its chunks. (This project's rules.)
use Rattle.std.specs.List.{AllByRecursion}
use Rattle.std.specs.Prelude.{◌≡◌, ℕ, suc, ◌^◌, ◌<◌, ◌⊎◌, slice_index, All, List, [], ◌∷◌, ◌++◌}
use Rattle.std.specs.Prelude.{length, map, Option, Some, None}
use Rattle.prolly_entry.specs.Byte.{IsByte}
use Rattle.prolly_entry.specs.Cut.{sha512_cut}
use Rattle.prolly_entry.specs.Keys.{Rising}
use Rattle.prolly_entry.specs.Pair.{Pair, IsPair}
use Rattle.prolly_entry.specs.Reference.{reference_of}
use Rattle.prolly_entry.specs.declared.version.Version.{Version}
use Rattle.prolly_entry.specs.declared.version.Version.TheVariants.{Two}
use Rattle.prolly_tree.specs.Chunk.{IsIn}
use Rattle.prolly_tree.specs.Difference.{IsMap}
use Rattle.prolly_tree.specs.File.{root_reference}
use Rattle.prolly_tree.specs.LookUp.{find, nth}
use Rattle.prolly_look_up.specs.Entries.{IsWhole}
use Rattle.prolly_look_up.specs.HeldPairs.{pairs_held}
use Rattle.prolly_look_up.specs.Content.{chunk_bytes}
use Rattle.prolly_look_up.specs.Kinds.{Entries, kind_of}
use Rattle.prolly_look_up.specs.Sought.{Sought, EndsAt, LeadsOn}
use Rattle.prolly_look_up.specs.Sought.Sought.{Key, Number}
use Rattle.prolly_look_up.specs.Kinds.Entries.{Leaf, Node}

-- ---- one chunk

-- The keys of entries, of pairs or of children.
abbrev pub entry_keys : Entries → List (List ℕ)
entry_keys (Leaf pairs) = map (λ p. p.key) pairs
entry_keys (Node children) = map (λ c. c.key) children

-- The chunk is a level and whole lawful entries of that level's kind, whose keys rise.
pub record IsOrdered (version : Version) (chunk : List ℕ) : Type 0 where
  pub whole : IsWhole version chunk
  pub rising : Rising (entry_keys (kind_of version chunk))

-- The chunk has the reference, and is one that can be read. It is bytes, as chunks in memory always
-- are: lists of other numbers have references too, and for them two different ones with one
-- reference are found by hand, so without this a clash would say nothing.
pub record IsNamed (version : Version) (reference chunk : List ℕ) : Type 0 where
  pub bytes : All IsByte chunk
  pub is : reference_of chunk ≡ reference
  pub ordered : IsOrdered version chunk

-- ---- chunks one below another

-- The first byte of a chunk.
abbrev pub level_of : List ℕ → ℕ
level_of chunk = slice_index chunk 0

-- The chunk stands one level below this one; it is the first, where there is none above.
abbrev pub FallsTo : Option ℕ → List ℕ → Type 0
FallsTo None chunk = Unit {0}
FallsTo (Some above) chunk = above ≡ suc (level_of chunk)

-- Each chunk stands one level below the one before it.
abbrev pub LevelsFall : List (List ℕ) → Type 0
LevelsFall [] = Unit {0}
LevelsFall (chunk ∷ []) = Unit {0}
LevelsFall (chunk ∷ below ∷ chunks) = (level_of chunk ≡ suc (level_of below)) ×
    LevelsFall (below ∷ chunks)

-- The chunks lead a look-up from the one reference, with what is sought there, to the other, with
-- what is sought there: each has the reference at which it goes on in the one before it.
abbrev pub Lead : Version → Sought → List ℕ → List (List ℕ) → List ℕ → Sought → Type 0
Lead version sought from [] to there = (from ≡ to) × (sought ≡ there)
Lead version sought from (chunk ∷ chunks) to there = IsNamed version from chunk ×
    (reference : List ℕ) × (next : Sought) × LeadsOn sought (kind_of version chunk) reference next ×
    Lead version next reference chunks to there

-- The chunks are the way of a look-up from the root of this reference to its end, where `there` is
-- sought in the last of them.
pub record IsWayTo (version : Version) (root : List ℕ) (sought : Sought) (chunks : List (List ℕ))
    : Type 0 where
  pub before : List (List ℕ)
  pub last : List ℕ
  pub reference : List ℕ
  pub there : Sought
  pub are : chunks ≡ before ++ last ∷ []
  pub lead : Lead version sought root before reference there
  pub named : IsNamed version reference last
  pub down : LevelsFall chunks
  pub ends : EndsAt there (kind_of version last)

-- The pair that is sought by a number among these.
abbrev pub nth_sought : Sought → List Pair → Option Pair
nth_sought (Key key) pairs = None
nth_sought (Number n) pairs = nth pairs n

-- The chunks are the way of a look-up of the key, which finds this value or none among the pairs of
-- the last one. (A node holds no pairs.)
pub record IsWay (version : Version) (root key : List ℕ) (chunks : List (List ℕ))
    (value : Option (List ℕ)) : Type 0 where
  pub way : IsWayTo version root (Key key) chunks
  pub value_is : value ≡ find (pairs_held way.last) key

-- The chunks are the way to a number, and this is its pair, or none. Only chunks of version Two
-- have counts.
pub record IsCountWay (root : List ℕ) (n : ℕ) (chunks : List (List ℕ)) (pair : Option Pair) : Type 0
  where
    pub way : IsWayTo Two root (Number n) chunks
    pub pair_is : pair ≡ nth_sought way.there (pairs_held way.last)

-- ---- what it proves

-- A chunk of the one list and a different one of the other have one reference.
pub record Clash (xs ys : List (List ℕ)) : Type 0 where
  pub one : List ℕ
  pub other : List ℕ
  pub in_one : IsIn one xs
  pub in_other : IsIn other ys
  pub differ : one ≡ other → ⊥
  pub same : reference_of one ≡ reference_of other

-- Law: whoever knows the reference of a map's root knows by such a way what the map has at the key,
-- whatever the bits of the map's tree; or else a chunk of the way and a different one of the tree
-- have one reference.
abbrev pub WaysAreRight : Type 0
WaysAreRight = (version : Version) (bits : ℕ) (m : List Pair) (key : List ℕ)
    (chunks : List (List ℕ)) (value : Option (List ℕ)) → IsMap m → AllByRecursion IsPair m →
    IsWay version (root_reference (sha512_cut bits) version m) key chunks value →
    (value ≡ find m key) ⊎ Clash chunks (chunk_bytes version bits m)

-- Law: so does who knows the reference of the root of a map of fewer than 2 ^ 64 pairs know the
-- pair that the map has at the number.
abbrev pub CountWaysAreRight : Type 0
CountWaysAreRight = (bits : ℕ) (m : List Pair) (n : ℕ) (chunks : List (List ℕ))
    (pair : Option Pair) → length m < 2 ^ 64 → IsMap m → AllByRecursion IsPair m →
    IsCountWay (root_reference (sha512_cut bits) Two m) n chunks pair →
    (pair ≡ nth m n) ⊎ Clash chunks (chunk_bytes Two bits m)
