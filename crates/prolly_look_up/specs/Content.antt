-- What a chunk file says, its chunks, and which bytes are it.
use Rattle.std.specs.List.{AllByRecursion}
use Rattle.std.specs.Prelude.{◌≡◌, ◌≤◌, ℕ, List, [], ◌∷◌, get_or, map}
use Rattle.prolly_entry.specs.Cut.{sha512_cut}
use Rattle.prolly_entry.specs.Keys.{Rising}
use Rattle.prolly_entry.specs.Pair.{Pair, IsPair}
use Rattle.prolly_entry.specs.Reference.{reference_of}
use Rattle.prolly_entry.specs.declared.version.Version.{Version}
use Rattle.prolly_tree.specs.Chunk.{chunks}
use Rattle.prolly_tree.specs.File.{file}
use Rattle.prolly_tree.specs.Tree.{bytes_of, tree_of}

-- The version of a file, its number of bits, and the pairs of its leaves.
pub record Content : Type 0 where
  pub version : Version
  pub bits : ℕ
  pub pairs : List Pair

-- The bytes of the top of the map's tree.
abbrev pub root_bytes : Content → List ℕ
root_bytes content =
    let tree = tree_of (sha512_cut content.bits) content.version content.pairs in
    bytes_of content.version tree.level tree.tree

-- The chunks of the file of a map, as bytes.
abbrev pub chunk_bytes : Version → ℕ → List Pair → List (List ℕ)
chunk_bytes version bits pairs = map (λ c. c.bytes) (chunks (sha512_cut bits) version pairs)

-- The chunks of the file of a map.
abbrev pub chunks_of : Content → List (List ℕ)
chunks_of content = chunk_bytes content.version content.bits content.pairs

-- The chunk of this number in a file.
abbrev pub nth_chunk : Content → ℕ → List ℕ
nth_chunk content number = get_or (chunks_of content) number []

-- No two chunks have one reference.
abbrev pub AllApart : List (List ℕ) → Type 0
AllApart [] = Unit {0}
AllApart (c ∷ cs) = AllByRecursion (λ d. reference_of c ≡ reference_of d → ⊥) cs × AllApart cs

-- The bytes are the file of a map, of a version and a number of bits, no two of whose chunks have
-- one reference.
pub record IsFileOf (bytes : List ℕ) (content : Content) : Type 0 where
  pub bits : content.bits ≤ 24
  pub lawful : AllByRecursion IsPair content.pairs
  pub rising : Rising (map (λ p. p.key) content.pairs)
  pub is : bytes ≡ file (sha512_cut content.bits) content.version content.pairs
  pub apart : AllApart (chunk_bytes content.version content.bits content.pairs)
