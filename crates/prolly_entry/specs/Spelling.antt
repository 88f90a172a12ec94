-- How pairs, records and child entries are spelled as bytes. Numbers are big-endian. (This
-- project's format.)
use Rattle.std.specs.Prelude.{◌≡◌, ℕ, ◌≤◌, List, [], ◌++◌, length, Option, Some, None}
use Rattle.std.specs.Int.{w16, w32, w64, to_be_bytes}
use Rattle.prolly_entry.specs.declared.version.Version.{Version}
use Rattle.prolly_entry.specs.declared.version.Version.TheVariants.{One, Two}
use Rattle.prolly_entry.specs.Pair.{Pair, IsPair}
use Rattle.prolly_entry.specs.Record.{Record, IsRecord}

-- A key: its length in two bytes, then its bytes.
abbrev pub key_spelling : List ℕ → List ℕ
key_spelling key = to_be_bytes w16 (length key) ++ key

-- A value: its length in four bytes, then its bytes.
abbrev pub value_spelling : List ℕ → List ℕ
value_spelling value = to_be_bytes w32 (length value) ++ value

-- A pair, in a leaf and in a record file alike: its key, then its value.
abbrev pub pair_spelling : Pair → List ℕ
pair_spelling p = key_spelling p.key ++ value_spelling p.value

-- What a record says of its key: a value that is put, or for a removal the greatest number where a
-- value's length stands.
abbrev pub change_spelling : Option (List ℕ) → List ℕ
change_spelling (Some value) = value_spelling value
change_spelling None = to_be_bytes w32 0xFFFF_FFFF

-- A record: its key, then what it says of it. So a put is spelled as its pair.
abbrev pub record_spelling : Record → List ℕ
record_spelling r = key_spelling r.key ++ change_spelling r.value

-- The count of the pairs below a child, in eight bytes; version One leaves it out.
abbrev pub count_spelling : Version → ℕ → List ℕ
count_spelling One count = []
count_spelling Two count = to_be_bytes w64 count

-- A child entry: the greatest key below the child, the 20 bytes of the child's reference, the
-- count.
abbrev pub child_spelling : Version → List ℕ → List ℕ → ℕ → List ℕ
child_spelling version key reference count = key_spelling key ++ reference ++ count_spelling version
    count

-- The spelling of a lawful entry begins the bytes, and the rest follows.
pub record BeginsWith {A : Type 0} (spelling : A → List ℕ) (Lawful : A → Type 0) (bytes : List ℕ)
    (entry : A) (rest : List ℕ) : Type 0 where
  pub lawful : Lawful entry
  pub is : bytes ≡ spelling entry ++ rest

-- Law: no spelling of a pair is a proper prefix of another. Where those of two pairs begin the same
-- bytes, the pairs are one, and what follows is the same.
abbrev pub PairSpellingsApart : Type 0
PairSpellingsApart = (p q : Pair) (x y : List ℕ) → IsPair p → IsPair q →
    pair_spelling p ++ x ≡ pair_spelling q ++ y → (p ≡ q) × (x ≡ y)

-- Law: so it is with records.
abbrev pub RecordSpellingsApart : Type 0
RecordSpellingsApart = (r s : Record) (x y : List ℕ) → IsRecord r → IsRecord s →
    record_spelling r ++ x ≡ record_spelling s ++ y → (r ≡ s) × (x ≡ y)

-- Law: so it is with child entries, whose counts have one spelling then.
abbrev pub ChildSpellingsApart : Version → Type 0
ChildSpellingsApart version = (key key' reference reference' : List ℕ) (count count' : ℕ)
    (x y : List ℕ) →
    length key ≤ 1024 → length key' ≤ 1024 → length reference ≡ length reference' →
    child_spelling version key reference count ++ x ≡ child_spelling version key' reference'
    count' ++ y →
    (key ≡ key') × (reference ≡ reference') ×
    (count_spelling version count ≡ count_spelling version count') × (x ≡ y)
