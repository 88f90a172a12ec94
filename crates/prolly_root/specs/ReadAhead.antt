-- Leaves of a chunk file that are read before they are asked for.
use Rattle.std.specs.Prelude.{◌≡◌, ℕ, List, take, drop}
use Rattle.prolly_root.specs.declared.file.fetched.Fetched.{Fetched}

-- The leaf is the part of these bytes that its frame names.
abbrev pub IsPartOf : List ℕ → Fetched → Type 0
IsPartOf bytes leaf = leaf.chunk ≡ take leaf.frame.len (drop leaf.frame.start bytes)
