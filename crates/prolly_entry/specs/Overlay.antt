-- The overlay of lists of records: the map that they make where a later list wins a key. (This
-- project's format.)
use Rattle.std.specs.Prelude.{◌≡◌, ℕ, false, List, [], ◌∷◌, ◌++◌, map, Option, Some, None}
use Rattle.std.specs.Prelude.{if◌then◌else◌}
use Rattle.std.specs.declared.cmp.Ordering.TheVariants.{Less, Equal, Greater}
use Rattle.std.specs.declared.cmp.Ordering.{Ordering}
use Rattle.std.specs.Ordering.{is_lt, is_eq}
use Rattle.std.specs.List.{flat_map, AllByRecursion}
use Rattle.prolly_entry.specs.Keys.{key_order, Rising}
use Rattle.prolly_entry.specs.Pair.{Pair}
use Rattle.prolly_entry.specs.Record.{Record, keys_of}

-- What a list says of a key: nothing, or that a value is put, or that the key is removed.
abbrev pub change_of : List Record → List ℕ → Option (Option (List ℕ))
change_of [] key = None
change_of (r ∷ rs) key = if is_eq (key_order r.key key) then Some r.value else change_of rs key

-- The first where it is there, else the second.
abbrev pub or_else : {A : Type 0} → Option A → Option A → Option A
or_else (Some x) other = Some x
or_else None other = other

-- What the last list that has the key says of it.
abbrev pub last_change_of : List (List Record) → List ℕ → Option (Option (List ℕ))
last_change_of [] key = None
last_change_of (records ∷ lists) key = or_else (last_change_of lists key) (change_of records key)

-- The raw overlay of lists: the rising list of all keys, each with its last record, removals too.
pub record IsRawOverlay (lists : List (List Record)) (m : List Record) : Type 0 where
  pub rising : Rising (keys_of m)
  pub is : (key : List ℕ) → change_of m key ≡ last_change_of lists key

-- ---- The same as a list that computes.

-- A record r put at its key's place into the list of s and ss, by how its key compares with that of
-- s; `more` is ss with r put there.
abbrev pub with_record_by : Ordering → Record → Record → List Record → List Record → List Record
with_record_by Less r s ss more = r ∷ s ∷ ss
with_record_by Equal r s ss more = r ∷ ss
with_record_by Greater r s ss more = s ∷ more

-- A rising list with a record put at its key's place, in the place of an earlier record of the key.
abbrev pub with_record : Record → List Record → List Record
with_record r [] = r ∷ []
with_record r (s ∷ ss) = with_record_by (key_order r.key s.key) r s ss (with_record r ss)

-- A rising list with records put there so, one after another.
abbrev pub with_records : List Record → List Record → List Record
with_records m [] = m
with_records m (r ∷ rs) = with_records (with_record r m) rs

-- The raw overlay: all records, put one after another in the order of the lists.
unfoldable pub raw_overlay : List (List Record) → List Record
raw_overlay lists = with_records [] (flat_map (λ records. records) lists)

-- The keys of each list rise.
abbrev pub AllRising : List (List Record) → Type 0
AllRising lists = AllByRecursion (λ records. Rising (keys_of records)) lists

-- Law: lists with rising keys have one raw overlay, and it is that one.
abbrev pub OneRawOverlay : Type 0
OneRawOverlay = (lists : List (List Record)) → AllRising lists →
    IsRawOverlay lists (raw_overlay lists) × ((m : List Record) → IsRawOverlay lists m →
    m ≡ raw_overlay lists)

-- ---- The overlay.

-- The pair that is put at a key; none where the key is removed.
abbrev pub pairs_of_change : List ℕ → Option (List ℕ) → List Pair
pairs_of_change key None = []
pairs_of_change key (Some value) = record { key = key; value = value } ∷ []

-- The pairs that records put, in their order; a removal puts none.
abbrev pub pairs_put : List Record → List Pair
pairs_put records = flat_map (λ r. pairs_of_change r.key r.value) records

-- The overlay of lists: the map of all (key, value) where the last list that has a record of the
-- key puts the value.
abbrev pub overlay : List (List Record) → List Pair
overlay lists = pairs_put (raw_overlay lists)

-- Law: the overlay is a map, whatever the lists.
abbrev pub OverlayIsMap : Type 0
OverlayIsMap = (lists : List (List Record)) → Rising (map (λ p. p.key) (overlay lists))

-- Law: the overlay stays the same where one of the lists is divided into two.
abbrev pub DivisionKeepsOverlay : Type 0
DivisionKeepsOverlay = (before after : List (List Record)) (x y : List Record) →
    Rising (keys_of (x ++ y)) →
    overlay (before ++ x ∷ y ∷ after) ≡ overlay (before ++ (x ++ y) ∷ after)

-- Law: two neighbours may be overlaid first.
abbrev pub NeighboursOverlayFirst : Type 0
NeighboursOverlayFirst = (before after : List (List Record)) (a b : List Record) →
    AllRising (before ++ a ∷ b ∷ after) →
    raw_overlay (before ++ a ∷ b ∷ after) ≡ raw_overlay (before ++ raw_overlay (a ∷ b ∷ []) ∷ after)

-- ---- How the raw overlay goes on, one key after another.

-- What is left of a list behind the key, where the key is its first.
abbrev pub rest_after : List ℕ → List Record → List Record
rest_after key [] = []
rest_after key (r ∷ rs) = if is_eq (key_order r.key key) then rs else r ∷ rs

-- The list's first key, if there is one, is not below the key.
abbrev pub NotBelow : List ℕ → List Record → Type 0
NotBelow key [] = Unit {0}
NotBelow key (r ∷ rs) = is_lt (key_order r.key key) ≡ false

-- Law: the raw overlay begins with the last record of the least key, and goes on as the raw overlay
-- of what is left.
abbrev pub OverlayStep : Type 0
OverlayStep = (lists : List (List Record)) (key : List ℕ) (value : Option (List ℕ)) →
    AllRising lists → AllByRecursion (NotBelow key) lists → last_change_of lists key ≡ Some value →
    raw_overlay lists ≡ record { key = key; value = value } ∷ raw_overlay
    (map (rest_after key) lists)
