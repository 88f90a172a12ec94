-- The file of a proof, and what it proves. (This project's format.)
use Rattle.std.specs.Prelude.{◌≡◌, ℕ, ◌⊎◌, List, [], ◌∷◌, ◌++◌, Option}
use Rattle.std.specs.List.{AllByRecursion, flat_map}
use Rattle.prolly_look_up.specs.Content.{Content, chunk_bytes}
use Rattle.prolly_look_up.specs.Way.{Clash, IsWay}
use Rattle.prolly_entry.specs.Cut.{sha512_cut}
use Rattle.prolly_entry.specs.Pair.{Pair, IsPair}
use Rattle.prolly_entry.specs.Version.{version_byte}
use Rattle.prolly_entry.specs.declared.version.Version.{Version}
use Rattle.prolly_io.specs.Frame.{framed, IsSmall}
use Rattle.prolly_tree.specs.Difference.{IsMap}
use Rattle.prolly_tree.specs.File.{root_reference}
use Rattle.prolly_tree.specs.LookUp.{find}

-- What a proof begins with: the letters PRLP, and the byte of the version of its chunks.
abbrev pub proof_start : Version → List ℕ
proof_start version = 0x50 ∷ 0x52 ∷ 0x4C ∷ 0x50 ∷ version_byte version ∷ []

-- The file of these chunks: that, and the frame of each.
abbrev pub proof_file : Version → List (List ℕ) → List ℕ
proof_file version chunks = proof_start version ++ flat_map framed chunks

-- The bytes are the file of the way of a look-up of the key from the root of this reference, which
-- finds this value or none.
pub record IsProof (version : Version) (root key bytes : List ℕ) (value : Option (List ℕ)) : Type 0
  where
    pub chunks : List (List ℕ)
    pub small : AllByRecursion IsSmall chunks
    pub is : bytes ≡ proof_file version chunks
    pub way : IsWay version root key chunks value

-- The bytes are a proof of what the tree with the root of this reference has at the key.
abbrev pub IsSomeProof : Version → List ℕ → List ℕ → List ℕ → Type 0
IsSomeProof version root key bytes =
    (value : Option (List ℕ)) × IsProof version root key bytes value

-- The bytes are the proof of what the map of a file of this content has at the key, for the file's
-- root: the key's value, or none.
abbrev pub IsProofOf : Content → List ℕ → List ℕ → Type 0
IsProofOf content key bytes = IsProof content.version
    (root_reference (sha512_cut content.bits) content.version content.pairs) key bytes
    (find content.pairs key)

-- A chunk of the proof and a different one of these have one reference.
pub record ShowsClash (version : Version) (bytes : List ℕ) (others : List (List ℕ)) : Type 0 where
  pub chunks : List (List ℕ)
  pub is : bytes ≡ proof_file version chunks
  pub clash : Clash chunks others

-- Law: what a proof says of the key for the root of a map, the map has, whatever the bits of its
-- tree; or else a chunk of the proof and a different one of the tree have one reference.
abbrev pub ProofsAreRight : Type 0
ProofsAreRight = (version : Version) (bits : ℕ) (m : List Pair) (key bytes : List ℕ)
    (value : Option (List ℕ)) → IsMap m → AllByRecursion IsPair m →
    IsProof version (root_reference (sha512_cut bits) version m) key bytes value →
    (value ≡ find m key) ⊎ ShowsClash version bytes (chunk_bytes version bits m)

-- Law: a proof says one thing of a key.
abbrev pub ProofsSayOne : Type 0
ProofsSayOne = (version : Version) (root key bytes : List ℕ) (value other : Option (List ℕ)) →
    IsProof version root key bytes value → IsProof version root key bytes other → value ≡ other

-- Law: there is one proof for a root and a key: two proofs are the same bytes, or else a chunk of
-- the one and a different one of the other have one reference.
abbrev pub ProofsAreOne : Type 0
ProofsAreOne = (version : Version) (root key bytes others : List ℕ)
    (value other : Option (List ℕ)) → (p : IsProof version root key bytes value) →
    (q : IsProof version root key others other) → (bytes ≡ others) ⊎ Clash p.chunks q.chunks
