-- The level of the leaves, as a machine that takes pairs one by one.
use Rattle.std.specs.Prelude.{◌≡◌, Bool, true, false, not, ◌&&◌, List, [], ◌∷◌, ◌++◌, Option}
use Rattle.std.specs.Option.{option_to_list}
use Rattle.prolly_entry.specs.declared.version.Version.{Version}
use Rattle.prolly_entry.specs.declared.version.Version.TheVariants.{One}
use Rattle.prolly_entry.specs.Pair.{Pair}
use Rattle.prolly_entry.specs.Cut.{Cut}
use Rattle.prolly_tree.specs.Split.{open_entries}
use Rattle.prolly_tree.specs.Tree.{pair_is_boundary}
use Rattle.prolly_tree.specs.Chunk.{Chunk, chunk_of}
use Rattle.prolly_tree.specs.Events.{clean, faulty, leaf_events}
use Rattle.prolly_chunk.specs.Chunk.{has_entries}

-- The level: its cut, the open leaf as if it closed now, and whether a pair came.
pub record LeafState (C : Type 0) : Type 0 where
  pub cut : C
  pub leaf : Chunk
  pub has_pairs : Bool

-- The level behind pairs. (No version matters: a leaf is the same in each.)
abbrev pub leaf_level : {C : Type 0} → (C → Cut) → C → List Pair → LeafState C
leaf_level cut_of cut pairs = record {
  cut = cut;
  leaf = chunk_of One 0 (open_entries (pair_is_boundary (cut_of cut)) 1 pairs);
  has_pairs = has_entries pairs;
}

-- The level begins as the one behind no pairs, of which the leaf stage sends nothing yet.
pub record LeafBegins {C : Type 0} (cut_of : C → Cut) (cut : C) (level : LeafState C) : Type 0 where
  pub state : level ≡ leaf_level cut_of cut []
  pub events : (version : Version) → leaf_events (cut_of cut) version faulty [] ≡ []

-- The level takes a pair, whatever pairs came before, and answers what the leaf stage sends for it.
pub record LeafTakes {C : Type 0} (cut_of : C → Cut) (old new : LeafState C) (pair : Pair)
    (closed : Option Chunk) : Type 0 where
  pub state : (cut : C) (pairs : List Pair) → old ≡ leaf_level cut_of cut pairs →
      new ≡ leaf_level cut_of cut (pairs ++ pair ∷ [])
  pub events : (cut : C) (version : Version) (pairs : List Pair) →
      old ≡ leaf_level cut_of cut pairs →
      leaf_events (cut_of cut) version faulty (pairs ++ pair ∷ []) ≡ leaf_events (cut_of cut)
      version faulty pairs ++ option_to_list closed

-- The level answers what the leaf stage sends at a clean end, whatever pairs came.
abbrev pub LeafEnds : {C : Type 0} → (C → Cut) → LeafState C → Option Chunk → Type 0
LeafEnds {C} cut_of level last = (cut : C) (version : Version) (pairs : List Pair) →
    level ≡ leaf_level cut_of cut pairs →
    leaf_events (cut_of cut) version clean pairs ≡ leaf_events (cut_of cut) version faulty pairs ++
    option_to_list last

-- The last pair is a boundary, and none before it is.
abbrev pub is_whole_leaf : Cut → List Pair → Bool
is_whole_leaf cut [] = false
is_whole_leaf cut (p ∷ []) = pair_is_boundary cut p
is_whole_leaf cut (p ∷ q ∷ ps) = not (pair_is_boundary cut p) && is_whole_leaf cut (q ∷ ps)

-- A whole leaf passes the level, whatever pairs came before: the level is as behind its pairs, and
-- its event is what the leaf stage sends for them.
pub record LeafPasses {C : Type 0} (cut_of : C → Cut) (old new : LeafState C) : Type 0 where
  pub state : (cut : C) (pairs leaf : List Pair) → is_whole_leaf (cut_of cut) leaf ≡ true →
      old ≡ leaf_level cut_of cut pairs → new ≡ leaf_level cut_of cut (pairs ++ leaf)
  pub events : (cut : C) (version : Version) (pairs leaf : List Pair) →
      is_whole_leaf (cut_of cut) leaf ≡ true → old ≡ leaf_level cut_of cut pairs →
      leaf_events (cut_of cut) version faulty (pairs ++ leaf) ≡ leaf_events (cut_of cut) version
      faulty pairs ++ chunk_of version 0 leaf ∷ []
