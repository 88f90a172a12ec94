-- JSON, as RFC 8259 has it, with no space between its parts.
use Rattle.std.specs.Prelude.{ℕ, zero, suc, List, [], ◌∷◌, ◌++◌, Option, Some, None, map, codes}
use Rattle.std.specs.Fmt.{decimal}
use Rattle.std.specs.List.{join_with_byte}
use Rattle.std.specs.Option.{option_copied}
use Rattle.prolly_entry.specs.Version.{version_byte}
use Rattle.prolly_text.specs.Rows.{rows_of}
use Rattle.prolly_text.specs.declared.numbers.table.Row.{Row}
use Rattle.prolly_text.specs.declared.numbers.table.TreeNumbers.{TreeNumbers}
use Rattle.prolly_text.specs.declared.numbers.records.RecordNumbers.{RecordNumbers}
use Rattle.prolly_text.specs.Notations.{written}
use Rattle.prolly_text.specs.declared.notation.Notation.TheVariants.{Hex}

-- ---- values

-- A string of characters that need no escape, between quotation marks.
abbrev pub quoted : List ℕ → List ℕ
quoted text = 0x22 ∷ text ++ 0x22 ∷ []

-- A member of an object: its name, a colon and its value.
abbrev pub member : List ℕ → List ℕ → List ℕ
member name value = quoted name ++ 0x3A ∷ value

-- An object: its members in braces, with commas between them.
abbrev pub object : List (List ℕ) → List ℕ
object members = 0x7B ∷ join_with_byte 0x2C members ++ 0x7D ∷ []

-- An array: its values in brackets, with commas between them.
abbrev pub array : List (List ℕ) → List ℕ
array values = 0x5B ∷ join_with_byte 0x2C values ++ 0x5D ∷ []

-- A member or a value behind a comma.
abbrev pub behind_comma : List ℕ → List ℕ
behind_comma text = 0x2C ∷ text

-- What stands before the value of this number in an array: a comma, but for the first.
abbrev pub comma_before : ℕ → List ℕ
comma_before zero = []
comma_before (suc number) = 0x2C ∷ []

-- ---- a tree

-- A level: its number, its chunks, its entries, the bytes of its chunks, and the sizes of its
-- smallest, its middle and its greatest chunk.
unfoldable pub level_json : Row → List ℕ
level_json row = object (
    member (codes "level") (decimal row.number) ∷
    member (codes "chunks") (decimal row.level.chunks) ∷
    member (codes "entries") (decimal row.entries) ∷
    member (codes "bytes") (decimal row.level.bytes) ∷
    member (codes "least") (decimal row.level.least) ∷
    member (codes "middle") (decimal row.level.middle) ∷
    member (codes "greatest") (decimal row.level.greatest) ∷ []
    )

-- The line of a tree: its numbers, and its levels from the leaves up.
unfoldable pub json_of : TreeNumbers → List ℕ
json_of tree = object (
    member (codes "root") (quoted tree.root.now) ∷
    member (codes "format") (decimal (version_byte tree.version)) ∷
    member (codes "bits") (decimal tree.bits) ∷
    member (codes "pairs") (decimal tree.pairs) ∷
    member (codes "chunks") (decimal tree.chunks) ∷
    member (codes "bytes") (decimal tree.bytes) ∷
    member (codes "levels") (array (map level_json (rows_of tree))) ∷ []
    ) ++ 0x0A ∷ []

-- ---- a record file

-- The member of a key in hexadecimal, where there is one.
abbrev pub key_member : List ℕ → Option (List ℕ) → List (List ℕ)
key_member name None = []
key_member name (Some key) = member name (quoted (written Hex key)) ∷ []

-- The line of a record file: its numbers, and its first and its last key, where it has them.
unfoldable pub records_json_of : RecordNumbers → List ℕ
records_json_of numbers = object (
    member (codes "records") (decimal numbers.records) ∷
    member (codes "removals") (decimal numbers.removals) ∷
    member (codes "bytes") (decimal numbers.bytes) ∷ [] ++
    key_member (codes "first") (option_copied numbers.first_key) ++
    key_member (codes "last") (option_copied numbers.last_key)
    ) ++ 0x0A ∷ []
