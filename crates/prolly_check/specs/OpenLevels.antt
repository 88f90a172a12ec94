-- Levels of nodes that stand one above another, each of which takes what the one below it sent.
use Rattle.std.specs.List.{AllByRecursion}
use Rattle.std.specs.Prelude.{◌≡◌, ℕ, zero, suc, ◌<◌, List, [], ◌∷◌}
use Rattle.prolly_entry.specs.Cut.{Cut, sha512_cut}
use Rattle.prolly_entry.specs.declared.version.Version.{Version}
use Rattle.prolly_tree.specs.Chunk.{Chunk}
use Rattle.prolly_tree.specs.Events.{faulty, inner_events}
use Rattle.prolly_chunk.specs.NodeLevel.{NodeState, node_level, NodeBegins}

-- What so many levels, from this one on, have sent of events, each taking what the one below it
-- sent.
abbrev pub sent_through : Cut → Version → ℕ → ℕ → List Chunk → List Chunk
sent_through cut version level zero events = events
sent_through cut version level (suc count) events =
    sent_through cut version (suc level) count (inner_events level cut version faulty events)

-- The levels, from this one on, are those that took the events.
abbrev pub AreBehind : ℕ → Version → ℕ → List (NodeState ℕ) → List Chunk → Type 0
AreBehind bits version level [] events = Unit {0}
AreBehind bits version level (state ∷ states) events =
    (state ≡ node_level sha512_cut bits version level events) ×
    AreBehind bits version (suc level) states
    (inner_events level (sha512_cut bits) version faulty events)

-- The chunks are of levels below this one.
abbrev pub AreBelow : ℕ → List Chunk → Type 0
AreBelow level events = AllByRecursion (λ e. e.level < level) events

-- The levels, from this one on, took nothing and have sent nothing.
abbrev pub AreUnused : ℕ → Version → ℕ → List (NodeState ℕ) → Type 0
AreUnused bits version level [] = Unit {0}
AreUnused bits version level (state ∷ states) = NodeBegins sha512_cut bits version level state ×
    AreUnused bits version (suc level) states

-- The number of levels of nodes. A tree of fewer than 2^64 pairs has no more.
unfoldable pub node_levels : ℕ
node_levels = 64
