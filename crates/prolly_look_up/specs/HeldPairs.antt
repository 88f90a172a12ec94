-- The bytes of chunks, and the pairs that they hold.
use Rattle.std.specs.Prelude.{ℕ, zero, suc, List, [], ◌∷◌, map}
use Rattle.prolly_entry.specs.Pair.{Pair}
use Rattle.prolly_tree.specs.Chunk.{Chunk}
use Rattle.prolly_look_up.specs.Entries.{pairs_in}

-- The bytes of chunks.
abbrev pub bytes_in : List Chunk → List (List ℕ)
bytes_in chunks = map (λ c. c.bytes) chunks

-- The pairs of a leaf's entries; a node has none itself.
abbrev pub pairs_held : List ℕ → List Pair
pairs_held [] = []
pairs_held (zero ∷ entries) = pairs_in entries
pairs_held (suc level ∷ entries) = []
