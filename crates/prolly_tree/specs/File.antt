-- The chunk file of a map, and what a run that met a fault has written of it. (This project's
-- format.)
use Rattle.std.specs.Prelude.{◌≡◌, ℕ, ◌^◌, ◌<◌, List, [], ◌∷◌, ◌++◌, length, ◌⊎◌}
use Rattle.std.specs.Int.{w64, to_be_bytes}
use Rattle.std.specs.List.{flat_map, AllByRecursion}
use Rattle.prolly_entry.specs.declared.version.Version.{Version}
use Rattle.prolly_entry.specs.Version.{version_byte}
use Rattle.prolly_entry.specs.Prefix.{IsPrefix}
use Rattle.prolly_entry.specs.Pair.{Pair, IsPair}
use Rattle.prolly_entry.specs.Reference.{reference_of}
use Rattle.prolly_entry.specs.Cut.{Cut}
use Rattle.prolly_tree.specs.Tree.{Tree, bytes_of, pairs_below, tree_of}
use Rattle.prolly_tree.specs.Chunk.{Chunk, chunks, begun_chunks, post_order, Collision}

-- The header: the letters PRLY, the version's byte, the number of the cut.
abbrev pub header : Version → ℕ → List ℕ
header version bits = 0x50 ∷ 0x52 ∷ 0x4C ∷ 0x59 ∷ version_byte version ∷ bits ∷ []

-- The frame of a chunk: the letter C, the chunk's length in eight bytes, its bytes.
abbrev pub frame : Chunk → List ℕ
frame chunk = 0x43 ∷ to_be_bytes w64 (length chunk.bytes) ++ chunk.bytes

-- The end record: the letter E, the root's reference, the number of chunks in eight bytes.
abbrev pub end_record : List ℕ → ℕ → List ℕ
end_record root count = 0x45 ∷ root ++ to_be_bytes w64 count

-- The reference of a map's root: that of its tree's top.
abbrev pub root_reference : Cut → Version → List Pair → List ℕ
root_reference cut version m = reference_of (bytes_of version (tree_of cut version m).level
    (tree_of cut version m).tree)

-- The file of a map: the header, a frame for each chunk in post-order, the end record.
abbrev pub file : Cut → Version → List Pair → List ℕ
file cut version m = header version cut.bits ++ flat_map frame (chunks cut version m)
    ++ end_record (root_reference cut version m) (length (chunks cut version m))

-- What is begun of a file: the header, and a frame for each closed chunk in post-order.
abbrev pub begun_file : Cut → Version → List Pair → List ℕ
begun_file cut version m = header version cut.bits ++ flat_map frame (begun_chunks cut version m)

-- Law: what a prefix of a map has begun is a prefix of the map's file.
abbrev pub BegunIsPrefix : Cut → Version → Type 0
BegunIsPrefix cut version = (prefix m : List Pair) → IsPrefix prefix m →
    IsPrefix (begun_file cut version prefix) (file cut version m)

-- Law: a file decides its version, its bits and its map.
abbrev pub FileDecidesMap : Type 0
FileDecidesMap = (v w : Version) (c d : Cut) (m m' : List Pair) → AllByRecursion IsPair m →
    AllByRecursion IsPair m' →
    length m < 2 ^ 40 → length m' < 2 ^ 40 → file c v m ≡ file d w m' →
    (v ≡ w) × (c.bits ≡ d.bits) × (m ≡ m')

-- Law: trees whose tops have one reference have the same pairs, or their chunks show a collision.
abbrev pub TreesTellPairs : Version → Type 0
TreesTellPairs version = (level level' : ℕ) (t : Tree level) (u : Tree level') →
    AllByRecursion IsPair (pairs_below level t) → AllByRecursion IsPair (pairs_below level' u) →
    reference_of (bytes_of version level t) ≡ reference_of (bytes_of version level' u) →
    (pairs_below level t ≡ pairs_below level' u)
    ⊎ Collision (post_order version level t) (post_order version level' u)

-- Law: maps with one root are the same, or their chunks show a collision.
abbrev pub RootsTellMaps : Version → Type 0
RootsTellMaps version = (c d : Cut) (m m' : List Pair) → AllByRecursion IsPair m →
    AllByRecursion IsPair m' →
    root_reference c version m ≡ root_reference d version m' →
    (m ≡ m') ⊎ Collision (chunks c version m) (chunks d version m')
