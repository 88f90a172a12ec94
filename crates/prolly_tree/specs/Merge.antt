-- Merging inputs of which some end with a fault: which fault is named, and which records come
-- before it. (This project's rules.)
use Rattle.std.specs.Prelude.{◌≡◌, ℕ, Bool, true, not, List, [], ◌∷◌, ◌++◌, map, Option, Some, None}
use Rattle.std.specs.Prelude.{if◌then◌else◌}
use Rattle.std.specs.List.{filter}
use Rattle.prolly_entry.specs.Pair.{Pair}
use Rattle.prolly_entry.specs.Record.{Record}
use Rattle.prolly_entry.specs.Position.{Position, last_position, is_before}
use Rattle.prolly_entry.specs.Overlay.{raw_overlay, pairs_put, AllRising}

-- An input: its records, and its fault unless its end is clean.
pub record Input (Fault : Type 0) : Type 0 where
  pub records : List Record
  pub fault : Option Fault

-- A fault with its position.
pub record Stop (Fault : Type 0) : Type 0 where
  pub position : Position
  pub fault : Fault

-- The fault of an input at this position; none where its end is clean.
abbrev pub stop_at : {Fault : Type 0} → Position → Option Fault → Option (Stop Fault)
stop_at position None = None
stop_at position (Some fault) = Some (record { position = position; fault = fault })

-- The one of less position, the first one among equals.
abbrev pub earlier_stop : {Fault : Type 0} → Option (Stop Fault) → Option (Stop Fault) →
    Option (Stop Fault)
earlier_stop None t = t
earlier_stop (Some s) None = Some s
earlier_stop (Some s) (Some t) = if is_before t.position s.position then Some t else Some s

-- The stop: the fault of least position, of the lowest input among equals; none where all ends are
-- clean. An input with a fault has the position of its last record, put or removed.
abbrev pub stop : {Fault : Type 0} → List (Input Fault) → Option (Stop Fault)
stop [] = None
stop (i ∷ inputs) = earlier_stop (stop_at (last_position i.records) i.fault) (stop inputs)

-- The fault that is named.
abbrev pub stop_fault : {Fault : Type 0} → Option (Stop Fault) → Option Fault
stop_fault None = None
stop_fault (Some s) = Some s.fault

-- The key comes up to, and with, the position of the stop.
abbrev pub is_within : {Fault : Type 0} → Option (Stop Fault) → List ℕ → Bool
is_within None key = true
is_within (Some s) key = not (is_before s.position (Some key))

-- The raw merged part: the raw overlay of the inputs, up to and with the stop's position.
abbrev pub raw_merged_part : {Fault : Type 0} → List (Input Fault) → List Record
raw_merged_part inputs = filter (λ r. is_within (stop inputs) r.key)
    (raw_overlay (map (λ i. i.records) inputs))

-- The merged part: the pairs that it puts.
abbrev pub merged_part : {Fault : Type 0} → List (Input Fault) → List Pair
merged_part inputs = pairs_put (raw_merged_part inputs)

-- Two inputs as one: their raw merged part, with the fault that their stop names.
abbrev pub joined_input : {Fault : Type 0} → Input Fault → Input Fault → Input Fault
joined_input a b = record {
  records = raw_merged_part (a ∷ b ∷ []);
  fault = stop_fault (stop (a ∷ b ∷ []));
}

-- Law: two neighbours may be merged first. The same fault is named at the same position, and the
-- merged part is the same.
abbrev pub NeighboursMergeFirst : Type 0 → Type 0
NeighboursMergeFirst Fault = (before after : List (Input Fault)) (a b : Input Fault) →
    AllRising (map (λ i. i.records) (before ++ a ∷ b ∷ after)) →
    (stop (before ++ a ∷ b ∷ after) ≡ stop (before ++ joined_input a b ∷ after))
    × (raw_merged_part (before ++ a ∷ b ∷ after) ≡
    raw_merged_part (before ++ joined_input a b ∷ after))
