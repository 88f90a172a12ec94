-- The table of a tree.
use Rattle.std.specs.Prelude.{ℕ, false, ◌-◌, List, [], ◌∷◌, ◌++◌, length, replicate, reverse, codes}
use Rattle.std.specs.Fmt.{decimal, digits}
use Rattle.std.specs.List.{flat_map}
use Rattle.prolly_entry.specs.Version.{version_byte}
use Rattle.prolly_text.specs.NumberLines.{line_of}
use Rattle.prolly_text.specs.Rows.{rows_of}
use Rattle.prolly_text.specs.declared.numbers.table.Row.{Row}
use Rattle.prolly_text.specs.declared.numbers.table.TreeNumbers.{TreeNumbers}

-- A text at the right of a column of this width, behind spaces; one that is longer takes more room.
abbrev pub right : ℕ → List ℕ → List ℕ
right width text = replicate (width - length text) 0x20 ++ text

-- One `#` for each binary digit of the number.
abbrev pub bar : ℕ → List ℕ
bar number = replicate (length (digits 2 false number)) 0x23

-- What the columns tell, one behind another: a level's number, its chunks, its entries, the bytes
-- of its chunks, and the sizes of its smallest, its middle and its greatest chunk.
abbrev pub columns : List ℕ → List ℕ → List ℕ → List ℕ → List ℕ → List ℕ → List ℕ → List ℕ
columns number chunks entries bytes least middle greatest =
    right 5 number ++ right 12 chunks ++ right 12 entries ++ right 14 bytes ++ right 12 least ++
    right 12 middle ++ right 12 greatest

-- The line that names the columns.
unfoldable pub heading : List ℕ
heading = columns (codes "level") (codes "chunks") (codes "entries") (codes "bytes")
    (codes "least") (codes "middle") (codes "greatest") ++ 0x0A ∷ []

-- The line of a level: its columns, and behind two spaces a bar for its chunks.
unfoldable pub row_line : Row → List ℕ
row_line row = columns (decimal row.number) (decimal row.level.chunks) (decimal row.entries)
    (decimal row.level.bytes) (decimal row.level.least) (decimal row.level.middle)
    (decimal row.level.greatest) ++ codes "  " ++ bar row.level.chunks ++ 0x0A ∷ []

-- The lines of a tree's numbers.
unfoldable pub head_of : TreeNumbers → List ℕ
head_of tree =
    line_of (codes "root") tree.root.now ++
    line_of (codes "format") (decimal (version_byte tree.version)) ++
    line_of (codes "bits") (decimal tree.bits) ++ line_of (codes "pairs") (decimal tree.pairs) ++
    line_of (codes "chunks") (decimal tree.chunks) ++ line_of (codes "bytes") (decimal tree.bytes)

-- The table: the numbers, the names of the columns, and the levels from the root's down.
unfoldable pub table_of : TreeNumbers → List ℕ
table_of tree = head_of tree ++ heading ++ flat_map row_line (reverse (rows_of tree))
