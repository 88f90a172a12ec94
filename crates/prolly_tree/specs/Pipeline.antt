-- The stages of a pipeline one behind another, and what its writer takes. (This project's rules.)
use Rattle.std.specs.Prelude.{◌≡◌, ℕ, zero, suc, ◌<◌, ◌≤◌, ◌↔◌, List, [], ◌∷◌, ◌++◌, length}
use Rattle.std.specs.Prelude.{if◌then◌else◌}
use Rattle.std.specs.List.{filter}
use Rattle.prolly_entry.specs.declared.version.Version.{Version}
use Rattle.prolly_entry.specs.Prefix.{IsPrefix}
use Rattle.prolly_entry.specs.Pair.{Pair}
use Rattle.prolly_entry.specs.Cut.{Cut}
use Rattle.prolly_tree.specs.Tree.{tree_of, level_count}
use Rattle.prolly_tree.specs.Chunk.{Chunk, chunk_of, chunks, begun_chunks}
use Rattle.prolly_tree.specs.Events.{Closing, clean, faulty, leaf_events, inner_events, has_level}

-- What the inner stage of level n sends, where the leaf stage received the pairs and each inner
-- stage what the one before it sent.
abbrev pub pipeline_events : ℕ → Cut → Version → Closing → List Pair → List Chunk
pipeline_events zero cut version closing pairs = leaf_events cut version closing pairs
pipeline_events (suc n) cut version closing pairs =
    inner_events (suc n) cut version closing (pipeline_events n cut version closing pairs)

-- The chunks up to, and without, the first of a level.
abbrev pub before_first : ℕ → List Chunk → List Chunk
before_first level [] = []
before_first level (e ∷ es) = if has_level level e then [] else e ∷ before_first level es

-- The chunks up to, and without, the second of a level.
abbrev pub before_second : ℕ → List Chunk → List Chunk
before_second level [] = []
before_second level (e ∷ es) = e ∷ (if has_level level e then before_first level es else
    before_second level es)

-- What a writer behind `stages` stages takes: the chunks up to, and without, the second one of the
-- last stage's level.
abbrev pub within_stages : ℕ → List Chunk → List Chunk
within_stages zero events = events
within_stages (suc level) events = before_second level events

-- The list has a second chunk of the level.
abbrev pub HasSecond : ℕ → List Chunk → Type 0
HasSecond level events = 2 ≤ length (filter (has_level level) events)

-- Law: where there are n + 1 stages, what the writer takes of the events of the last one is what it
-- takes of the chunks of the map's tree, at a fault of those that are closed; and the last stage
-- sends a second event of its level exactly where the tree has more levels than there are stages.
abbrev pub StagesMakeTree : Cut → Version → List Pair → ℕ → Type 0
StagesMakeTree cut version m n =
    (within_stages (suc n) (pipeline_events n cut version clean m) ≡ within_stages (suc n)
    (chunks cut version m))
    × (HasSecond n (pipeline_events n cut version clean m) ↔ (suc n < level_count cut version m))
    × (within_stages (suc n) (pipeline_events n cut version faulty m) ≡ within_stages (suc n)
    (begun_chunks cut version m))

-- Law: where the stages are enough, the last one sends the chunks of the tree, all of which the
-- writer takes, and the root last.
abbrev pub EnoughStages : Cut → Version → List Pair → ℕ → Type 0
EnoughStages cut version m n =
    (pipeline_events n cut version clean m ≡ chunks cut version m)
    × (within_stages (suc n) (chunks cut version m) ≡ chunks cut version m)
    × ((before : List Chunk) × (chunks cut version m
    ≡ before ++ chunk_of version (tree_of cut version m).level (tree_of cut version m).tree ∷ []))

-- Law: of a prefix of a list the writer takes a prefix of what it takes of the list, and that is a
-- prefix of the list.
abbrev pub WriterTakesPrefix : Type 0
WriterTakesPrefix = (stages : ℕ) (prefix list : List Chunk) → IsPrefix prefix list →
    IsPrefix (within_stages stages prefix) (within_stages stages list) ×
    IsPrefix (within_stages stages list) list
