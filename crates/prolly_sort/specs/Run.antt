-- What a run holds, and what it tells of it.
use Rattle.std.specs.Prelude.{◌≡◌, ◌↔◌, ℕ, zero, suc, ◌+◌, ◌*◌, ◌<◌, ◌≤◌, Bool, true, List, [], ◌∷◌, ◌++◌}
use Rattle.std.specs.Prelude.{All, length, slice_index_or}
use Rattle.prolly_entry.specs.Keys.{Rising}
use Rattle.prolly_entry.specs.Record.{Record, keys_of}
use Rattle.prolly_sort.specs.declared.place.Place.{Place}
use Rattle.prolly_sort.specs.Overlaid.{written}
use Rattle.prolly_sort.specs.Place.{StandsIn, key_in, records_in}

-- The records that came, in the order in which they came, and how much they may take.
pub record Held : Type 0 where
  pub records : List Record
  pub budget : ℕ

-- The records that lie in these places, and this budget.
abbrev pub held_in : List ℕ → List Place → ℕ → Held
held_in bytes places budget = record { records = records_in bytes places; budget = budget }

-- No record came yet.
abbrev pub new_run : ℕ → Held
new_run budget = record { records = []; budget = budget }

-- A record more came.
abbrev pub with_more : Held → Record → Held
with_more held r = record { records = held.records ++ r ∷ []; budget = held.budget }

-- How much of a budget records take: their record file, and 24 bytes for each.
abbrev pub cost_of : List Record → ℕ
cost_of records = length (written records) + 24 * length records

-- The numbers of the places go up by one, from this one on.
abbrev pub NumberedFrom : ℕ → List Place → Type 0
NumberedFrom n [] = Unit {0}
NumberedFrom n (p ∷ places) = (p.number ≡ n) × NumberedFrom (suc n) places

-- The bytes are the record file of the records that lie in these places, whose numbers go up from
-- 0. All of it is within the budget, and the keys rise where it says so, and only there.
pub record IsHeld (bytes : List ℕ) (places : List Place) (is_rising : Bool) (budget : ℕ) : Type 0
  where
    pub stand : All (StandsIn bytes) places
    pub spelled : bytes ≡ written (records_in bytes places)
    pub numbered : NumberedFrom zero places
    pub rising : (is_rising ≡ true) ↔ Rising (keys_of (records_in bytes places))
    pub within : length bytes + 24 * length places ≤ budget
    pub limit : budget ≤ 0xFFFF_FFFF

-- The record of the one number and that of the other one, a later one, have one key.
pub record AreDoubled (records : List Record) (first second : ℕ) : Type 0 where
  pub order : first < second
  pub within : second < length records
  pub same : (d : Record) →
      (slice_index_or records first d).key ≡ (slice_index_or records second d).key

-- Somewhere among the places these two stand side by side, and have one key.
pub record AreNeighbours (bytes : List ℕ) (places : List Place) (one next : Place) : Type 0 where
  pub at : ℕ
  pub within : suc at < length places
  pub one_is : (d : Place) → slice_index_or places at d ≡ one
  pub next_is : (d : Place) → slice_index_or places (suc at) d ≡ next
  pub same : key_in bytes one ≡ key_in bytes next
