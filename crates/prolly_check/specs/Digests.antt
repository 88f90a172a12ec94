-- What is told of chunks by who has hashed them.
use Rattle.std.specs.List.{list_any}
use Rattle.std.specs.Prelude.{◌≡◌, ℕ, ◌<◌, ◌≤◌, List, [], get_or, length, take, drop}
use Rattle.std.specs.Prelude.{true, false, None}
use Rattle.prolly_entry.specs.Cut.{sha512_cut}
use Rattle.prolly_entry.specs.Pair.{Pair}
use Rattle.prolly_entry.specs.Reference.{reference_of}
use Rattle.prolly_entry.specs.declared.version.Version.{Version}
use Rattle.prolly_tree.specs.Tree.{pair_is_boundary}
use Rattle.prolly_chunk.specs.LeafLevel.{is_whole_leaf}
use Rattle.prolly_look_up.specs.Entries.{Holds, IsSomeLeaf, IsWhole, pairs_in}
use Rattle.prolly_check.specs.FirstFault.{last_behind, rises_behind}
use Rattle.prolly_look_up.specs.HeldPairs.{pairs_held}
use Rattle.prolly_check.specs.declared.verdict.digests.ChunkDigest.{ChunkDigest}
use Rattle.prolly_check.specs.declared.verdict.pairs_digest.PairsDigest.{PairsDigest}

-- So many pairs there are, and this is whether their keys rise, whether one of them is a boundary,
-- and whether they are those of a whole leaf.
pub record AreCounted (bits : ℕ) (pairs : List Pair) (digest : PairsDigest) : Type 0 where
  pub count : digest.count ≡ length pairs
  pub rises : digest.rises ≡ rises_behind None pairs
  pub some : digest.has_boundary ≡ list_any (pair_is_boundary (sha512_cut bits)) pairs
  pub whole : digest.is_whole_leaf ≡ is_whole_leaf (sha512_cut bits) pairs

-- The last one of the pairs is all that the entries hold from this offset on; none, if there is none.
pub record LastBegins (entries : List ℕ) (pairs : List Pair) (offset : ℕ) : Type 0 where
  pub within : offset ≤ length entries
  pub leaf : IsSomeLeaf (drop offset entries)
  pub one : length (pairs_in (drop offset entries)) ≤ 1
  pub last : last_behind None (pairs_in (drop offset entries)) ≡ last_behind None pairs

-- That is told of the pairs of these entries.
pub record TellsOf (bits : ℕ) (entries : List ℕ) (pairs : List Pair) (digest : PairsDigest) : Type 0
  where
    pub counted : AreCounted bits pairs digest
    pub last : LastBegins entries pairs digest.last_pair

-- That is told of the pairs of a chunk.
abbrev pub IsPairsDigest : ℕ → List ℕ → PairsDigest → Type 0
IsPairsDigest bits chunk digest = TellsOf bits (drop 1 chunk) (pairs_held chunk) digest

-- The chunk is a level and whole lawful entries, and these are its reference and what is told of its
-- pairs.
pub record IsDigest (version : Version) (bits : ℕ) (chunk : List ℕ) (digest : ChunkDigest) : Type 0
  where
    pub whole : IsWhole version chunk
    pub reference : digest.reference.0 ≡ reference_of chunk
    pub pairs : IsPairsDigest bits chunk digest.pairs

-- The chunk is not a level and whole lawful entries.
abbrev pub IsBroken : Version → List ℕ → Type 0
IsBroken version chunk = (pairs : List Pair) → Holds version chunk pairs → ⊥

-- What is told of a chunk: its digest, or that it is broken.
pub record Tells (version : Version) (bits : ℕ) (chunk : List ℕ) (told : ChunkDigest) : Type 0 where
  pub whole : told.is_whole ≡ true → IsDigest version bits chunk told
  pub broken : told.is_whole ≡ false → IsBroken version chunk

-- Each chunk has such a thing, in the order of the chunks.
pub record EachHas {A : Type 0} (Has : List ℕ → A → Type 0) (chunks : List (List ℕ)) (xs : List A)
    : Type 0 where
  pub many : length xs ≡ length chunks
  pub each : (number : ℕ) (other : A) → number < length chunks →
      Has (get_or chunks number []) (get_or xs number other)

-- The digests of chunks.
abbrev pub AreDigests : Version → ℕ → List (List ℕ) → List ChunkDigest → Type 0
AreDigests version bits chunks digests = EachHas (IsDigest version bits) chunks digests

-- The references of chunks, as their digests have them.
abbrev pub AreNamed : List (List ℕ) → List ChunkDigest → Type 0
AreNamed chunks digests = EachHas (λ chunk digest. digest.reference.0 ≡ reference_of chunk) chunks
    digests

-- The digests of the chunks before the first one that is broken, or of all where none is.
pub record AreDigestsOf (version : Version) (bits : ℕ) (chunks : List (List ℕ))
    (digests : List ChunkDigest) : Type 0 where
  pub few : length digests ≤ length chunks
  pub front : AreDigests version bits (take (length digests) chunks) digests
  pub bad : length digests < length chunks → IsBroken version (get_or chunks (length digests) [])
