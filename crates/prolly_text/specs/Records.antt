-- The lines of a record file.
use Rattle.std.specs.Prelude.{ℕ, List, ◌++◌, codes, option_map}
use Rattle.std.specs.Fmt.{decimal}
use Rattle.std.specs.Option.{option_copied}
use Rattle.prolly_text.specs.NumberLines.{line_of, optional_line}
use Rattle.prolly_text.specs.declared.numbers.records.RecordNumbers.{RecordNumbers}
use Rattle.prolly_text.specs.Notations.{written}
use Rattle.prolly_text.specs.declared.notation.Notation.{Notation}

-- How many records there are, how many of them are removals, and how many bytes they take, a line
-- each; and lines for the first and the last key, where there are some.
unfoldable pub records_of : Notation → RecordNumbers → List ℕ
records_of notation numbers =
    line_of (codes "records") (decimal numbers.records) ++
    line_of (codes "removals") (decimal numbers.removals) ++
    line_of (codes "bytes") (decimal numbers.bytes) ++
    optional_line (codes "first")
    (option_map (written notation) (option_copied numbers.first_key)) ++
    optional_line (codes "last") (option_map (written notation) (option_copied numbers.last_key))
