-- What the stages of a pipeline send, as a function of all that they received. An event is a chunk.
-- (This project's rules.)
use Rattle.std.specs.Prelude.{◌≡◌, ℕ, zero, suc, ◌+◌, Bool, true, false, ◌==◌, nat_le, ◌&&◌, min}
use Rattle.std.specs.Prelude.{List, [], ◌∷◌, ◌++◌, length, map, if◌then◌else◌}
use Rattle.std.specs.List.{flat_map, filter}
use Rattle.prolly_entry.specs.declared.version.Version.{Version}
use Rattle.prolly_entry.specs.Prefix.{IsPrefix}
use Rattle.prolly_entry.specs.Pair.{Pair}
use Rattle.prolly_entry.specs.Spelling.{child_spelling}
use Rattle.prolly_entry.specs.Reference.{reference_of}
use Rattle.prolly_entry.specs.Cut.{Cut}
use Rattle.prolly_tree.specs.Split.{is_closed, closed_groups, open_groups, open_entries}
use Rattle.prolly_tree.specs.Tree.{leaves, pair_is_boundary}
use Rattle.prolly_tree.specs.Chunk.{Chunk, chunk_of}

-- How a list that a stage receives ends: clean, or with a fault, whichever it is.
pub data Closing : Type 0 where
  clean faulty : Closing

-- What the leaf stage sends of pairs: at a clean end an event for each leaf, at a fault one for
-- each closed group.
abbrev pub leaf_events : Cut → Version → Closing → List Pair → List Chunk
leaf_events cut version clean pairs = map (chunk_of version 0) (leaves cut pairs)
leaf_events cut version faulty pairs = map (chunk_of version 0)
    (closed_groups (pair_is_boundary cut) 1 pairs)

-- The child entry that an event stands for.
abbrev pub event_entry : Version → Chunk → List ℕ
event_entry version event = child_spelling version event.key (reference_of event.bytes) event.count

-- Which events are boundaries, by their entries.
abbrev pub event_is_boundary : Cut → Version → Chunk → Bool
event_is_boundary cut version event = cut.is_boundary (event_entry version event)

-- The key of the last event; the empty key where there is none.
abbrev pub last_event_key : List Chunk → List ℕ
last_event_key [] = []
last_event_key (e ∷ []) = e.key
last_event_key (e ∷ f ∷ es) = last_event_key (f ∷ es)

-- The greatest count that eight bytes spell.
abbrev pub greatest_count : ℕ
greatest_count = 0xFFFF_FFFF_FFFF_FFFF

-- The sum of the counts of events.
abbrev pub count_sum : List Chunk → ℕ
count_sum [] = 0
count_sum (e ∷ es) = e.count + count_sum es

-- The event of a group of events: the key of its last entry, the sum of its counts, which stays at
-- the greatest count, and as bytes the level and the spellings of its entries.
abbrev pub group_event : Version → ℕ → List Chunk → Chunk
group_event version level group = record {
  level = level;
  key = last_event_key group;
  count = min greatest_count (count_sum group);
  bytes = level ∷ flat_map (event_entry version) group;
}

-- The event is one of this level.
abbrev pub has_level : ℕ → Chunk → Bool
has_level level event = event.level == level

-- The events up to, and with, number n of a level, counted from 1; all where there is no such one.
abbrev pub events_through : ℕ → ℕ → List Chunk → List Chunk
events_through level zero events = []
events_through level (suc n) [] = []
events_through level (suc n) (e ∷ es) = elim (has_level level e) [
  | true ↦ e ∷ events_through level n es
  | false ↦ e ∷ events_through level (suc n) es
]

-- The events beyond number n of a level, counted from 1.
abbrev pub events_beyond : ℕ → ℕ → List Chunk → List Chunk
events_beyond level zero events = events
events_beyond level (suc n) [] = []
events_beyond level (suc n) (e ∷ es) = elim (has_level level e) [
  | true ↦ events_beyond level n es
  | false ↦ events_beyond level (suc n) es
]

-- The events, where after the event of the last entry of each group the event of that group is put
-- in. The entries are the events of one level, and the groups follow one another from the first
-- entry on.
abbrev pub with_group_events : ℕ → (List Chunk → Chunk) → List (List Chunk) → List Chunk →
    List Chunk
with_group_events level event_of [] events = events
with_group_events level event_of (group ∷ groups) events =
    events_through level (length group) events
    ++ event_of group ∷ with_group_events level event_of groups
    (events_beyond level (length group) events)

-- What a stage sends at its input's end of the group that is not closed: at a clean end, where it
-- has received two entries or more, the group's event.
abbrev pub events_at_end : Closing → (List Chunk → Chunk) → ℕ → List (List Chunk) → List Chunk
events_at_end faulty event_of entries groups = []
events_at_end clean event_of entries groups = if nat_le 2 entries then map event_of groups else []

-- What a stage sends of events, where the events of level `below` are its entries, a test says
-- which of them are boundaries, and a function what the event of a group is.
abbrev pub stage_events : (Chunk → Bool) → (List Chunk → Chunk) → ℕ → Closing → List Chunk →
    List Chunk
stage_events is_boundary event_of below closing events =
    let entries = filter (has_level below) events in
    with_group_events below event_of (closed_groups is_boundary 2 entries) events
    ++ events_at_end closing event_of (length entries) (open_groups is_boundary 2 entries)

-- What the stage above level `below` sends.
abbrev pub events_above : ℕ → Cut → Version → Closing → List Chunk → List Chunk
events_above below cut version closing events =
    stage_events (event_is_boundary cut version) (group_event version (suc below)) below closing
    events

-- What the inner stage of a level, 1 or more, sends.
abbrev pub inner_events : ℕ → Cut → Version → Closing → List Chunk → List Chunk
inner_events zero cut version closing events = events
inner_events (suc below) cut version closing events = events_above below cut version closing events

-- Law: what a stage sends of a prefix of its input with a fault is a prefix of what it sends of the
-- whole, whatever its end.
abbrev pub FaultSendsPrefix : Cut → Version → Type 0
FaultSendsPrefix cut version =
    ((closing : Closing) (prefix more : List Pair) →
    IsPrefix (leaf_events cut version faulty prefix)
    (leaf_events cut version closing (prefix ++ more)))
    × ((closing : Closing) (level : ℕ) (prefix more : List Chunk) →
    IsPrefix (inner_events level cut version faulty prefix)
    (inner_events level cut version closing (prefix ++ more)))

-- Law: what one more event adds to what a stage has sent, and what a clean end adds.
abbrev pub StageStep : (Chunk → Bool) → (List Chunk → Chunk) → ℕ → List Chunk → Chunk → Type 0
StageStep is_boundary event_of below events e =
    let group = open_entries is_boundary 2 (filter (has_level below) events) ++ e ∷ [] in
    (stage_events is_boundary event_of below faulty (events ++ e ∷ [])
    ≡ stage_events is_boundary event_of below faulty events
    ++ e ∷ (if has_level below e && is_closed is_boundary 2 group then event_of group ∷ [] else []))
    × (stage_events is_boundary event_of below clean events
    ≡ stage_events is_boundary event_of below faulty events
    ++ events_at_end clean event_of (length (filter (has_level below) events))
    (open_groups is_boundary 2 (filter (has_level below) events)))
