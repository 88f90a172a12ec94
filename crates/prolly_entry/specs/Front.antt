-- What bytes begin with: a record, a pair, or no whole one. (This project's format.)
use Rattle.std.specs.Prelude.{◌≡◌, ◌≢◌, ℕ, ◌+◌, ◌-◌, ◌<◌, ◌≤◌, nat_lt, ◌==◌, List, ◌++◌, length}
use Rattle.std.specs.Prelude.{take, drop, Some, None, if◌then◌else◌}
use Rattle.prolly_entry.specs.declared.front.FrontRecord.{FrontRecord}
use Rattle.prolly_entry.specs.declared.front.FrontRecord.TheVariants.{Put, Remove, More, KeyTooLong}
use Rattle.prolly_entry.specs.declared.front.FrontRecord.TheVariants.{ValueTooLong}
use Rattle.prolly_entry.specs.declared.front.Front.{Front}
use Rattle.prolly_entry.specs.declared.front.Front.TheVariants as pairs
use Rattle.prolly_entry.specs.Pair.{Pair, IsPair}
use Rattle.prolly_entry.specs.Record.{Record, IsRecord}
use Rattle.prolly_entry.specs.Spelling.{pair_spelling, record_spelling}
use Rattle.prolly_entry.specs.Reading.{key_length, value_length}

-- The record's spelling is the first `len` bytes, and the record is lawful.
pub record IsRecordAt (bytes : List ℕ) (r : Record) (len : ℕ) : Type 0 where
  pub lawful : IsRecord r
  pub spelled : bytes ≡ record_spelling r ++ drop len bytes
  pub size : length (record_spelling r) ≡ len
  pub within : len ≤ length bytes

-- The spelling of this lawful pair, of this length, begins the bytes.
pub record IsPairAt (bytes : List ℕ) (p : Pair) (len : ℕ) : Type 0 where
  pub lawful : IsPair p
  pub spelled : bytes ≡ pair_spelling p ++ drop len bytes
  pub size : length (pair_spelling p) ≡ len
  pub within : len ≤ length bytes

-- No lawful record's spelling begins the bytes.
abbrev pub NoRecordAt : List ℕ → Type 0
NoRecordAt bytes = (r : Record) (more : List ℕ) → IsRecord r → bytes ≡ record_spelling r ++ more → ⊥

-- No lawful pair's spelling begins the bytes.
abbrev pub NoPairAt : List ℕ → Type 0
NoPairAt bytes = (p : Pair) (more : List ℕ) → IsPair p → bytes ≡ pair_spelling p ++ more → ⊥

-- The pair whose key and value lie between these offsets.
abbrev pub pair_at : List ℕ → ℕ → ℕ → ℕ → Pair
pair_at bytes key_end value_start len = record {
  key = take (key_end - 2) (drop 2 bytes);
  value = take (len - value_start) (drop value_start bytes);
}

-- The record that puts the value at the key that lie between these offsets.
abbrev pub put_at : List ℕ → ℕ → ℕ → ℕ → Record
put_at bytes key_end value_start len = record {
  key = take (key_end - 2) (drop 2 bytes);
  value = Some (take (len - value_start) (drop value_start bytes));
}

-- The record that removes the key that ends at this offset.
abbrev pub removal_at : List ℕ → ℕ → Record
removal_at bytes key_end = record { key = take (key_end - 2) (drop 2 bytes); value = None }

-- A field is cut, and no length that is whole is over its limit.
pub data IsCut (bytes : List ℕ) : Type 0 where
  in_key_length : length bytes < 2 → IsCut bytes
  before_value : key_length bytes ≤ 1024 → length bytes < 6 + key_length bytes → IsCut bytes
  in_value : key_length bytes ≤ 1024 → value_length bytes ≤ 65536 →
      length bytes < 6 + key_length bytes + value_length bytes → IsCut bytes

-- The key's length is over its limit.
pub record HasLongKey (bytes : List ℕ) : Type 0 where
  pub there : 2 ≤ length bytes
  pub over : 1024 < key_length bytes

-- The key is whole, and the number where the value's length stands is over its limit.
pub record HasLongValue (bytes : List ℕ) : Type 0 where
  pub key : key_length bytes ≤ 1024
  pub there : 6 + key_length bytes ≤ length bytes
  pub over : 65536 < value_length bytes

-- What the bytes begin with, where a removal is a record.
abbrev pub IsFrontRecord : List ℕ → FrontRecord → Type 0
IsFrontRecord bytes (Put key_end value_start len) =
    IsRecordAt bytes (put_at bytes key_end value_start len) len × (key_end ≤ value_start) ×
    (value_start ≤ len) × (2 ≤ key_end)
IsFrontRecord bytes (Remove key_end len) = IsRecordAt bytes (removal_at bytes key_end) len ×
    (key_end ≤ len) × (2 ≤ key_end)
IsFrontRecord bytes More = NoRecordAt bytes × IsCut bytes
IsFrontRecord bytes KeyTooLong = NoRecordAt bytes × HasLongKey bytes
IsFrontRecord bytes ValueTooLong = NoRecordAt bytes × HasLongValue bytes ×
    (value_length bytes ≢ 0xFFFF_FFFF)

-- What bytes begin with, computed: of `size` bytes that spell a key of n bytes and the number
-- m for the value's length.
abbrev pub front_by : ℕ → ℕ → ℕ → FrontRecord
front_by size n m =
    if nat_lt size 2 then More
    else (if nat_lt 1024 n then KeyTooLong
    else (if nat_lt size (6 + n) then More
    else (if m == 0xFFFF_FFFF then Remove (2 + n) (6 + n)
    else (if nat_lt 65536 m then ValueTooLong
    else (if nat_lt size (6 + n + m) then More
    else Put (2 + n) (6 + n) (6 + n + m))))))

-- What these bytes begin with, computed.
abbrev pub front_of : List ℕ → FrontRecord
front_of bytes = front_by (length bytes) (key_length bytes) (value_length bytes)

-- What a front is where only a put is a pair: a removal is a value that is too long.
abbrev pub as_pair : FrontRecord → Front
as_pair (Put key_end value_start len) = pairs.Pair key_end value_start len
as_pair (Remove key_end len) = pairs.ValueTooLong
as_pair More = pairs.More
as_pair KeyTooLong = pairs.KeyTooLong
as_pair ValueTooLong = pairs.ValueTooLong

-- What the bytes begin with, where only a put is a pair.
abbrev pub IsFrontPair : List ℕ → Front → Type 0
IsFrontPair bytes (pairs.Pair key_end value_start len) =
    IsPairAt bytes (pair_at bytes key_end value_start len) len × (key_end ≤ value_start) ×
    (value_start ≤ len) × (2 ≤ key_end)
IsFrontPair bytes pairs.More = NoPairAt bytes × IsCut bytes
IsFrontPair bytes pairs.KeyTooLong = NoPairAt bytes × HasLongKey bytes
IsFrontPair bytes pairs.ValueTooLong = NoPairAt bytes × HasLongValue bytes
