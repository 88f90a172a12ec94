-- The entries that chunks hold.
use Rattle.std.specs.List.{flat_map, AllByRecursion}
use Rattle.std.specs.Prelude.{◌≡◌, ℕ, zero, suc, ◌+◌, List, [], ◌∷◌, ◌++◌, length, take, drop}
use Rattle.prolly_entry.specs.ChildAt.{tail_length}
use Rattle.prolly_entry.specs.Pair.{Pair, IsPair}
use Rattle.prolly_entry.specs.Reading.{key_length, value_length}
use Rattle.prolly_entry.specs.Spelling.{pair_spelling}
use Rattle.prolly_entry.specs.declared.version.Version.{Version}
pub use Rattle.prolly_entry.specs.Child.{Child, IsChild, entry_of, first_count}
pub use Rattle.prolly_entry.specs.Spelling.{BeginsWith}

-- The entries of a leaf are the spellings of these pairs.
pub record IsLeaf (entries : List ℕ) (pairs : List Pair) : Type 0 where
  pub is : entries ≡ flat_map pair_spelling pairs
  pub lawful : AllByRecursion IsPair pairs

-- The entries that bytes hold, so many at most, where a function tells the first one and another
-- what is behind it.
abbrev pub entries_up_to : {A : Type 0} → (List ℕ → A) → (List ℕ → List ℕ) → ℕ → List ℕ → List A
entries_up_to first behind zero bytes = []
entries_up_to first behind (suc n) [] = []
entries_up_to first behind (suc n) (b ∷ bytes) =
    first (b ∷ bytes) ∷ entries_up_to first behind n (behind (b ∷ bytes))

-- All entries that bytes hold, where two functions tell them so.
abbrev pub entries_in : {A : Type 0} → (List ℕ → A) → (List ℕ → List ℕ) → List ℕ → List A
entries_in first behind bytes = entries_up_to first behind (length bytes) bytes

-- The pair at the front of a leaf's entries.
abbrev pub first_pair : List ℕ → Pair
first_pair entries = record {
  key = take (key_length entries) (drop 2 entries);
  value = take (value_length entries) (drop (6 + key_length entries) entries);
}

-- The entries of a leaf behind the pair at their front.
abbrev pub behind_pair : List ℕ → List ℕ
behind_pair entries = drop (6 + key_length entries + value_length entries) entries

-- The pairs that a leaf's entries spell.
unfoldable pub pairs_in : List ℕ → List Pair
pairs_in entries = entries_in first_pair behind_pair entries

-- The child at the front of a node's entries.
abbrev pub first_child : Version → List ℕ → Child
first_child version entries = record {
  key = take (key_length entries) (drop 2 entries);
  reference = take 20 (drop (2 + key_length entries) entries);
  count = first_count version (drop (2 + key_length entries + 20) entries);
}

-- The entries of a node behind the child at their front.
abbrev pub behind_child : Version → List ℕ → List ℕ
behind_child version entries = drop (2 + key_length entries + tail_length version) entries

-- The children that a node's entries spell.
unfoldable pub children_in : Version → List ℕ → List Child
children_in version entries = entries_in (first_child version) (behind_child version) entries

-- The entries of a node are the spellings of child entries; a node has no pair itself.
pub record IsNode (version : Version) (entries : List ℕ) (pairs : List Pair) : Type 0 where
  pub children : List Child
  pub is : entries ≡ flat_map (entry_of version) children
  pub lawful : AllByRecursion IsChild children
  pub none : pairs ≡ []

-- The chunk is a level byte and whole lawful entries of that level's kind, and has these pairs.
abbrev pub Holds : Version → List ℕ → List Pair → Type 0
Holds version [] pairs = ⊥
Holds version (zero ∷ entries) pairs = IsLeaf entries pairs
Holds version (suc level ∷ entries) pairs = IsNode version entries pairs

-- Law: no leaf has, behind lawful pairs, bytes that no lawful pair begins.
abbrev pub NoLeaf : Type 0
NoLeaf = (done pairs : List Pair) (rest : List ℕ) → AllByRecursion IsPair done → (rest ≡ [] → ⊥) →
    ((p : Pair) (x : List ℕ) → IsPair p → rest ≡ pair_spelling p ++ x → ⊥) →
    IsLeaf (flat_map pair_spelling done ++ rest) pairs → ⊥

-- Law: no node has, behind lawful child entries, bytes that no lawful child entry begins.
abbrev pub NoNode : Version → Type 0
NoNode version = (done : List Child) (pairs : List Pair) (rest : List ℕ) →
    AllByRecursion IsChild done → (rest ≡ [] → ⊥) →
    ((c : Child) (x : List ℕ) → IsChild c → rest ≡ entry_of version c ++ x → ⊥) →
    IsNode version (flat_map (entry_of version) done ++ rest) pairs → ⊥

-- The entries are a leaf's, whatever pairs they are.
pub record IsSomeLeaf (entries : List ℕ) : Type 0 where
  pub pairs : List Pair
  pub is : IsLeaf entries pairs

-- The chunk is such, whatever pairs it has.
pub record IsWhole (version : Version) (chunk : List ℕ) : Type 0 where
  pub pairs : List Pair
  pub holds : Holds version chunk pairs

-- The chunks are such, whatever pairs they have.
abbrev pub AreWhole : Version → List (List ℕ) → Type 0
AreWhole version chunks = AllByRecursion (IsWhole version) chunks
