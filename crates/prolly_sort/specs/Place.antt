-- Where a record lies among the bytes of a run.
use Rattle.std.specs.Prelude.{◌≡◌, ℕ, zero, suc, ◌+◌, ◌*◌, ◌^◌, ◌<◌, ◌≤◌, nat_eq, nat_lt, List, []}
use Rattle.std.specs.Prelude.{Bool, ◌&&◌, false}
use Rattle.std.specs.Prelude.{◌∷◌, All, drop, length, map, Option, Some, None, is_some, slice_range}
use Rattle.std.specs.Prelude.{if◌then◌else◌, IsPermutation, slice_index_or}
use Rattle.std.specs.List.{AllPairs}
use Rattle.std.specs.Ordering.{is_eq, is_lt, nat_cmp, ordering_then}
use Rattle.std.specs.declared.cmp.Ordering.{Ordering}
use Rattle.prolly_entry.specs.Keys.{key_order}
use Rattle.prolly_entry.specs.Prefix.{IsPrefix}
use Rattle.prolly_entry.specs.Record.{Record, IsRecord}
use Rattle.prolly_entry.specs.Spelling.{record_spelling}
use Rattle.prolly_sort.specs.declared.place.Place.{Place}

-- The bytes from one place up to another, or none where the bytes end before.
abbrev pub part_in : List ℕ → ℕ → ℕ → List ℕ
part_in bytes from to = if nat_lt (length bytes) to then [] else slice_range bytes from to

-- The key that stands behind its length.
abbrev pub key_in : List ℕ → Place → List ℕ
key_in bytes p = part_in bytes (p.start + 2) (p.start + 2 + p.key_len)

-- The first n bytes of a list as a number in base 256, the first one the weightiest, with zeros
-- behind the list's end.
abbrev pub prefix_of : ℕ → List ℕ → ℕ
prefix_of zero bytes = 0
prefix_of (suc n) [] = 0
prefix_of (suc n) (byte ∷ bytes) = byte * 256 ^ n + prefix_of n bytes

-- The value that stands behind the key and the value's length; none where the key is removed.
abbrev pub value_in : List ℕ → Place → Option (List ℕ)
value_in bytes p =
    if p.is_put then Some (slice_range bytes (p.start + 6 + p.key_len) p.end) else None

-- The record that lies there.
abbrev pub record_in : List ℕ → Place → Record
record_in bytes p = record { key = key_in bytes p; value = value_in bytes p }

-- The records that lie in these places, in the order of the places.
abbrev pub records_in : List ℕ → List Place → List Record
records_in bytes places = map (record_in bytes) places

-- A lawful record lies there, from the place's start up to its end.
pub record StandsIn (bytes : List ℕ) (p : Place) : Type 0 where
  pub ordered : p.start + 6 + p.key_len ≤ p.end
  pub within : p.end ≤ length bytes
  pub spelled : slice_range bytes p.start p.end ≡ record_spelling (record_in bytes p)
  pub lawful : IsRecord (record_in bytes p)

-- The place with the number of the eight bytes of its key that stand behind the first n.
abbrev pub ranked_behind : ℕ → List ℕ → Place → Place
ranked_behind n bytes p = record {
  prefix = prefix_of 8 (drop n (key_in bytes p));
  number = p.number;
  start = p.start;
  end = p.end;
  key_len = p.key_len;
  is_put = p.is_put;
}

-- The new places are the old ones, ranked behind a front that all their keys have in common.
pub record WereRanked (bytes : List ℕ) (old new : List Place) : Type 0 where
  pub front : List ℕ
  pub shared : All (λ p. IsPrefix front (key_in bytes p)) old
  pub new_are : new ≡ map (ranked_behind (length front) bytes) old

-- The place before it was ranked.
abbrev pub unranked : Place → Place
unranked p = record {
  prefix = 0;
  number = p.number;
  start = p.start;
  end = p.end;
  key_len = p.key_len;
  is_put = p.is_put;
}

-- The new places are the old ones in some order, however they were ranked.
abbrev pub SamePlaces : List Place → List Place → Type 0
SamePlaces old new = IsPermutation (map unranked old) (map unranked new)

-- The first places, so many, are all up to the next one that are ranked as the first one.
pub record IsFirstGroup (places : List Place) (len : ℕ) : Type 0 where
  pub some : 0 < len
  pub within : len ≤ length places
  pub alike : (k : ℕ) (d : Place) → k < len →
      (slice_index_or places k d).prefix ≡ (slice_index_or places 0 d).prefix
  pub ends : (d : Place) → len < length places →
      (slice_index_or places len d).prefix ≡ (slice_index_or places 0 d).prefix → ⊥

-- Places are compared by their keys, and by their numbers where these are equal.
abbrev pub place_order : List ℕ → Place → Place → Ordering
place_order bytes p q =
    ordering_then (key_order (key_in bytes p) (key_in bytes q)) (nat_cmp p.number q.number)

-- So compared, the one place is less than the other.
abbrev pub comes_before : List ℕ → Place → Place → Bool
comes_before bytes p q = is_lt (place_order bytes p q)

-- The one place's key is less than the other's.
abbrev pub is_below : List ℕ → Place → Place → Bool
is_below bytes p q = is_lt (key_order (key_in bytes p) (key_in bytes q))

-- The two places have one key, and are ranked alike.
abbrev pub have_one_key : List ℕ → Place → Place → Bool
have_one_key bytes p q =
    nat_eq p.prefix q.prefix && is_eq (key_order (key_in bytes p) (key_in bytes q))

-- The other place does not come before the one, and is ranked alike where they have one key.
pub record Precedes (bytes : List ℕ) (p q : Place) : Type 0 where
  pub order : comes_before bytes q p ≡ false
  pub alike : key_in bytes p ≡ key_in bytes q → p.prefix ≡ q.prefix

-- Each place precedes all later ones.
abbrev pub AreInOrder : List ℕ → List Place → Type 0
AreInOrder bytes places = AllPairs (Precedes bytes) places

-- The place of a record of this number, whose spelling lies from `start` up to `stop`. It is not
-- ranked yet.
abbrev pub place_of : ℕ → ℕ → ℕ → Record → Place
place_of number start stop r = record {
  prefix = 0;
  number = number;
  start = start;
  end = stop;
  key_len = length r.key;
  is_put = is_some r.value;
}
