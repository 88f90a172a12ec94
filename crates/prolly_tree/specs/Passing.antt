-- What of a map goes on unchanged where changes are laid over it. (This project's rules.)
use Rattle.std.specs.Prelude.{◌≡◌, ℕ, ◌<◌, true, List, [], ◌∷◌, ◌++◌, length, map, Option}
use Rattle.std.specs.List.{flat_map, AllByRecursion}
use Rattle.prolly_entry.specs.declared.version.Version.{Version}
use Rattle.prolly_entry.specs.Cut.{Cut}
use Rattle.prolly_entry.specs.Keys.{KeyBelow, Rising}
use Rattle.prolly_entry.specs.Overlay.{overlay, raw_overlay}
use Rattle.prolly_entry.specs.Pair.{Pair}
use Rattle.prolly_entry.specs.Record.{Record, keys_of}
use Rattle.prolly_tree.specs.Chunk.{Chunk, chunk_of}
use Rattle.prolly_tree.specs.Difference.{IsMap, puts}
use Rattle.prolly_tree.specs.Events.{Closing, clean, faulty, leaf_events}
use Rattle.prolly_tree.specs.Merge.{Input, stop, stop_fault, merged_part}
use Rattle.prolly_tree.specs.MergeSteps.{SaysOn}
use Rattle.prolly_tree.specs.Split.{split, is_closed, closed_groups, open_entries}
use Rattle.prolly_tree.specs.Tree.{last_key, pair_is_boundary}

-- Each key is above this one.
abbrev pub AllBehind : List ℕ → List Record → Type 0
AllBehind key records = AllByRecursion (λ r. KeyBelow key r.key) records

-- None of the keys is above this one.
abbrev pub AllUpTo : List ℕ → List Record → Type 0
AllUpTo key records = AllByRecursion (λ r. KeyBelow key r.key → ⊥) records

-- Law: two lists that are cut at one key may be overlaid in front of it and behind it.
abbrev pub OverlayAtKey : Type 0
OverlayAtKey = (key : List ℕ) (a b c d : List Record) → Rising (keys_of (a ++ b)) →
    Rising (keys_of (c ++ d)) → AllUpTo key a → AllBehind key b → AllUpTo key c →
    AllBehind key d →
    (raw_overlay ((a ++ b) ∷ (c ++ d) ∷ []) ≡ raw_overlay (a ∷ c ∷ []) ++
    raw_overlay (b ∷ d ∷ []))
    × (overlay ((a ++ b) ∷ (c ++ d) ∷ []) ≡ overlay (a ∷ c ∷ []) ++ overlay (b ∷ d ∷ []))

-- Law: the first pairs of a map stay as they are where no change has a key up to their last one.
abbrev pub FrontStays : Type 0
FrontStays = (front rest : List Pair) (changes : List Record) → IsMap (front ++ rest) →
    Rising (keys_of changes) → 0 < length front → AllBehind (last_key front) changes →
    overlay (puts (front ++ rest) ∷ changes ∷ []) ≡ front ++ overlay (puts rest ∷ changes ∷ [])

-- A map as an input, whose end may be a fault.
abbrev pub map_input : {Fault : Type 0} → List Pair → Option Fault → Input Fault
map_input m fault = record { records = puts m; fault = fault }

-- Law: where either end may be a fault, the first pairs of the map are in the merged part as they
-- are, where no change has a key up to their last one, and a change is there or none is to come.
-- What follows is merged as if they were not there, and the fault that is named is the same.
abbrev pub FrontStaysMerged : Type 0 → Type 0
FrontStaysMerged Fault = (front rest : List Pair) (fault : Option Fault) (changes : Input Fault) →
    IsMap (front ++ rest) → Rising (keys_of changes.records) → 0 < length front →
    AllBehind (last_key front) changes.records → SaysOn changes →
    (merged_part (map_input (front ++ rest) fault ∷ changes ∷ []) ≡ front ++
    merged_part (map_input rest fault ∷ changes ∷ []))
    × (stop_fault (stop (map_input (front ++ rest) fault ∷ changes ∷ [])) ≡
    stop_fault (stop (map_input rest fault ∷ changes ∷ [])))

-- Law: the first leaf of a map, where it is closed, stays a leaf where no change has a key up to
-- its last one; and behind it come the leaves of the rest of the map with the changes.
abbrev pub LeafStays : Cut → Type 0
LeafStays cut = (m : List Pair) (changes : List Record) (leaf : List Pair)
    (others : List (List Pair)) → IsMap m → Rising (keys_of changes) →
    split (pair_is_boundary cut) 1 m ≡ leaf ∷ others →
    is_closed (pair_is_boundary cut) 1 leaf ≡ true → AllBehind (last_key leaf) changes →
    let rest = flat_map (λ group. group) others in
    (m ≡ leaf ++ rest) × (split (pair_is_boundary cut) 1 rest ≡ others)
    × (split (pair_is_boundary cut) 1 (overlay (puts m ∷ changes ∷ [])) ≡
    leaf ∷ split (pair_is_boundary cut) 1 (overlay (puts rest ∷ changes ∷ [])))

-- What the leaf stage sends of pairs behind others, while it has no open leaf: no leaf without
-- pairs.
abbrev pub later_leaf_events : Cut → Version → Closing → List Pair → List Chunk
later_leaf_events cut version clean pairs = map (chunk_of version 0)
    (split (pair_is_boundary cut) 1 pairs)
later_leaf_events cut version faulty pairs = map (chunk_of version 0)
    (closed_groups (pair_is_boundary cut) 1 pairs)

-- Law: where pairs end with a closed leaf, what is sent goes on behind them as of the pairs that
-- follow, but for the leaf without pairs, which is sent where no pair came at all.
abbrev pub LeafEventsGoOn : Cut → Version → Type 0
LeafEventsGoOn cut version = (closing : Closing) (xs ys : List Pair) →
    open_entries (pair_is_boundary cut) 1 xs ≡ [] →
    (later_leaf_events cut version closing (xs ++ ys) ≡ leaf_events cut version faulty xs ++
    later_leaf_events cut version closing ys)
    × (0 < length xs → leaf_events cut version closing (xs ++ ys) ≡
    leaf_events cut version faulty xs ++ later_leaf_events cut version closing ys)
    × (0 < length ys → leaf_events cut version closing (xs ++ ys) ≡
    leaf_events cut version faulty xs ++ leaf_events cut version closing ys)

-- Law: the event of such a leaf is sent first, and then what comes of the rest.
abbrev pub LeafEventStays : Cut → Version → Type 0
LeafEventStays cut version = (closing : Closing) (m : List Pair) (changes : List Record)
    (leaf : List Pair) (others : List (List Pair)) → IsMap m → Rising (keys_of changes) →
    split (pair_is_boundary cut) 1 m ≡ leaf ∷ others →
    is_closed (pair_is_boundary cut) 1 leaf ≡ true → AllBehind (last_key leaf) changes →
    leaf_events cut version closing (overlay (puts m ∷ changes ∷ [])) ≡
    chunk_of version 0 leaf ∷ later_leaf_events cut version closing
    (overlay (puts (flat_map (λ group. group) others) ∷ changes ∷ []))

-- Law: so it is where either end may be a fault.
abbrev pub LeafEventStaysMerged : Type 0 → Cut → Version → Type 0
LeafEventStaysMerged Fault cut version = (closing : Closing) (leaf rest : List Pair)
    (fault : Option Fault) (changes : Input Fault) → IsMap (leaf ++ rest) →
    Rising (keys_of changes.records) →
    closed_groups (pair_is_boundary cut) 1 leaf ≡ leaf ∷ [] →
    AllBehind (last_key leaf) changes.records → SaysOn changes →
    leaf_events cut version closing (merged_part (map_input (leaf ++ rest) fault ∷ changes ∷ []))
    ≡ chunk_of version 0 leaf ∷ later_leaf_events cut version closing
    (merged_part (map_input rest fault ∷ changes ∷ []))
