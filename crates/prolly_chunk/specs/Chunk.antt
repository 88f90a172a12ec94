-- How a chunk is filled entry by entry.
use Rattle.std.specs.Prelude.{ℕ, ◌+◌, min, Bool, true, false, List, [], ◌∷◌, ◌++◌}
use Rattle.prolly_entry.specs.declared.version.Version.{Version}
use Rattle.prolly_entry.specs.Pair.{Pair}
use Rattle.prolly_entry.specs.Spelling.{pair_spelling}
use Rattle.prolly_tree.specs.Chunk.{Chunk}
use Rattle.prolly_tree.specs.Events.{greatest_count, event_entry}

-- A chunk without entries: its one byte is its level.
abbrev pub empty_chunk : ℕ → Chunk
empty_chunk level = record { level = level; key = []; count = 0; bytes = level ∷ [] }

-- The chunk with one more entry, of this key, count and spelling.
abbrev pub with_entry : Chunk → List ℕ → ℕ → List ℕ → Chunk
with_entry chunk key count spelling = record {
  level = chunk.level;
  key = key;
  count = min (chunk.count + count) greatest_count;
  bytes = chunk.bytes ++ spelling;
}

-- The chunk with one more pair.
abbrev pub with_pair : Chunk → Pair → Chunk
with_pair chunk pair = with_entry chunk pair.key 1 (pair_spelling pair)

-- The chunk with one more child, which an event stands for.
abbrev pub with_child : Version → Chunk → Chunk → Chunk
with_child version chunk event = with_entry chunk event.key event.count (event_entry version event)

-- Whether there is an entry.
abbrev pub has_entries : {A : Type 0} → List A → Bool
has_entries [] = false
has_entries (x ∷ xs) = true
