-- The records that the bytes of a record file spell, and what follows them. (This project's
-- format.)
use Rattle.std.specs.Prelude.{◌≡◌, ℕ, ◌+◌, ◌≤◌, nat_lt, ◌==◌, List, [], ◌∷◌, ◌++◌, length, take}
use Rattle.std.specs.Prelude.{drop, All, Option, Some, None, if◌then◌else◌}
use Rattle.std.specs.Int.{w16, w32, from_be_bytes}
use Rattle.std.specs.List.{flat_map, AllByRecursion}
use Rattle.prolly_entry.specs.declared.next.Flaw.{Flaw}
use Rattle.prolly_entry.specs.declared.next.Flaw.TheVariants.{Truncated, KeyTooLong, ValueTooLong}
use Rattle.prolly_entry.specs.declared.next.Flaw.TheVariants.{OutOfOrder, TooManyRecords}
use Rattle.prolly_entry.specs.Byte.{IsByte}
use Rattle.prolly_entry.specs.Keys.{Rising}
use Rattle.prolly_entry.specs.Prefix.{IsPrefix}
use Rattle.prolly_entry.specs.Record.{Record, IsRecord, keys_of}
use Rattle.prolly_entry.specs.Spelling.{record_spelling}
use Rattle.prolly_entry.specs.Position.{Position, last_position, is_before}

-- The records are lawful, at most `limit` many, their keys rise, and their spellings, one after
-- another, begin the bytes; the rest follows.
pub record Begins (bytes : List ℕ) (limit : ℕ) (records : List Record) (rest : List ℕ) : Type 0
  where
    pub spelled : bytes ≡ flat_map record_spelling records ++ rest
    pub lawful : AllByRecursion IsRecord records
    pub rising : Rising (keys_of records)
    pub few : length records ≤ limit

-- The number that stands where the length of a record's key stands.
abbrev pub key_length : List ℕ → ℕ
key_length bytes = from_be_bytes w16 (take 2 bytes)

-- The number that stands where the length of a record's value stands, behind a key of that length.
abbrev pub value_length : List ℕ → ℕ
value_length bytes = from_be_bytes w32 (take 4 (drop (2 + key_length bytes) bytes))

-- What is wrong with a whole record of this key behind a position: the key is not greater.
abbrev pub order_flaw : Position → List ℕ → Option Flaw
order_flaw position key = if is_before position (Some key) then None else Some OutOfOrder

-- What is wrong with the next record, where `size` bytes follow `count` good records: the first of
-- these that holds, and None where one more good record follows. By the bytes the key's length is n
-- and the value's m, where the greatest number marks a removal, which has no value; the last
-- question is the order of the keys.
abbrev pub flaw_by : ℕ → ℕ → ℕ → ℕ → ℕ → Option Flaw → Option Flaw
flaw_by limit count size n m order =
    if count == limit then Some TooManyRecords
    else (if nat_lt size 2 then Some Truncated
    else (if nat_lt 1024 n then Some KeyTooLong
    else (if nat_lt size (6 + n) then Some Truncated
    else (if m == 0xFFFF_FFFF then order
    else (if nat_lt 65536 m then Some ValueTooLong
    else (if nat_lt size (6 + n + m) then Some Truncated
    else order))))))

-- The flaw of the bytes that follow, where the last good record's key is the position.
abbrev pub next_flaw : ℕ → ℕ → Position → List ℕ → Option Flaw
next_flaw limit count position rest =
    flaw_by limit count (length rest) (key_length rest) (value_length rest)
    (order_flaw position (take (key_length rest) (drop 2 rest)))

-- The ending: clean (None) where no byte follows the good records, else what is wrong with the next
-- record.
abbrev pub EndsIn : ℕ → List Record → List ℕ → Option Flaw → Type 0
EndsIn limit good [] ending = ending ≡ None
EndsIn limit good (b ∷ rest) None = ⊥
EndsIn limit good (b ∷ rest) (Some flaw) = next_flaw limit (length good) (last_position good)
    (b ∷ rest) ≡ Some flaw

-- The reading of bytes: the good records are the longest list of records that begins them, and what
-- follows them is the ending. A flaw's place is the number of good records.
pub record IsReading (bytes : List ℕ) (limit : ℕ) (good : List Record) (ending : Option Flaw) : Type
    0 where
  pub rest : List ℕ
  pub begins : Begins bytes limit good rest
  pub longest : (records : List Record) (more : List ℕ) → Begins bytes limit records more →
      length records ≤ length good
  pub ends : EndsIn limit good rest ending

-- Law: bytes have at most one reading.
abbrev pub OneReading : Type 0
OneReading = (bytes : List ℕ) (limit : ℕ) (good good' : List Record) (ending ending' : Option Flaw)
    →
    IsReading bytes limit good ending → IsReading bytes limit good' ending' →
    (good ≡ good') × (ending ≡ ending')

-- The bytes have a reading.
pub record HasReading (bytes : List ℕ) (limit : ℕ) : Type 0 where
  pub good : List Record
  pub ending : Option Flaw
  pub reading : IsReading bytes limit good ending

-- Law: bytes have a reading.
abbrev pub SomeReading : Type 0
SomeReading = (bytes : List ℕ) (limit : ℕ) → All IsByte bytes → HasReading bytes limit

-- Law: records that begin the bytes are the first ones of their reading.
abbrev pub FirstAreGood : Type 0
FirstAreGood = (bytes : List ℕ) (limit : ℕ) (records : List Record) (rest : List ℕ)
    (good : List Record) (ending : Option Flaw) →
    Begins bytes limit records rest → IsReading bytes limit good ending → IsPrefix records good
