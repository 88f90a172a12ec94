-- A level of nodes, as a machine that takes events one by one.
use Rattle.std.specs.Prelude.{◌≡◌, ℕ, zero, suc, Bool, true, false, List, [], ◌∷◌, ◌++◌, Option}
use Rattle.std.specs.List.{filter}
use Rattle.std.specs.Option.{option_to_list}
use Rattle.prolly_entry.specs.declared.version.Version.{Version}
use Rattle.prolly_entry.specs.Cut.{Cut}
use Rattle.prolly_tree.specs.Split.{open_entries}
use Rattle.prolly_tree.specs.Chunk.{Chunk}
use Rattle.prolly_tree.specs.Events.{clean, faulty, inner_events, group_event, event_is_boundary}
use Rattle.prolly_tree.specs.Events.{has_level}
use Rattle.prolly_chunk.specs.declared.node.Received.{Received}
use Rattle.prolly_chunk.specs.declared.node.Received.TheVariants.{Nothing, Single, Several}

-- The level: its cut, the version, the open node as if it closed now, and how many events of the
-- level below came.
pub record NodeState (C : Type 0) : Type 0 where
  pub cut : C
  pub version : Version
  pub node : Chunk
  pub received : Received

-- How many these events are: none, a single one, or several.
abbrev pub received_of : List Chunk → Received
received_of [] = Nothing
received_of (e ∷ []) = Single
received_of (e ∷ f ∷ es) = Several

-- How many came once one more has come.
abbrev pub one_more_received : Received → Received
one_more_received Nothing = Single
one_more_received Single = Several
one_more_received Several = Several

-- Whether several came.
abbrev pub is_several : Received → Bool
is_several Nothing = false
is_several Single = false
is_several Several = true

-- The children that came to a level: the events of the level below.
abbrev pub children_at : ℕ → List Chunk → List Chunk
children_at zero events = []
children_at (suc below) events = filter (has_level below) events

-- The level behind events.
abbrev pub node_level : {C : Type 0} → (C → Cut) → C → Version → ℕ → List Chunk → NodeState C
node_level cut_of cut version level events = record {
  cut = cut;
  version = version;
  node = group_event version level (open_entries (event_is_boundary (cut_of cut) version) 2
      (children_at level events));
  received = received_of (children_at level events);
}

-- The level begins as the one behind no events, of which the inner stage sends nothing yet.
pub record NodeBegins {C : Type 0} (cut_of : C → Cut) (cut : C) (version : Version) (level : ℕ)
    (begun : NodeState C) : Type 0 where
  pub state : begun ≡ node_level cut_of cut version level []
  pub events : inner_events level (cut_of cut) version faulty [] ≡ []

-- The level takes an event, whatever events came before, and answers what the inner stage sends
-- behind the event itself.
pub record NodeTakes {C : Type 0} (cut_of : C → Cut) (old new : NodeState C) (event : Chunk)
    (closed : Option Chunk) : Type 0 where
  pub state : (cut : C) (version : Version) (level : ℕ) (events : List Chunk) →
      old ≡ node_level cut_of cut version level events →
      new ≡ node_level cut_of cut version level (events ++ event ∷ [])
  pub events : (cut : C) (version : Version) (level : ℕ) (events : List Chunk) →
      old ≡ node_level cut_of cut version level events →
      inner_events level (cut_of cut) version faulty (events ++ event ∷ [])
      ≡ inner_events level (cut_of cut) version faulty events ++ event ∷ option_to_list closed

-- The level answers what the inner stage sends at a clean end, whatever events came.
abbrev pub NodeEnds : {C : Type 0} → (C → Cut) → NodeState C → Option Chunk → Type 0
NodeEnds {C} cut_of state last = (cut : C) (version : Version) (level : ℕ) (events : List Chunk) →
    state ≡ node_level cut_of cut version level events →
    inner_events level (cut_of cut) version clean events ≡ inner_events level (cut_of cut) version
    faulty events ++ option_to_list last
