-- A flawed record file, explained.
use Rattle.std.specs.Prelude.{ℕ, List, [], ◌∷◌, ◌++◌, codes, length, take, nat_lt, if◌then◌else◌}
use Rattle.std.specs.Prelude.{Option, option_map}
use Rattle.std.specs.Fmt.{decimal}
use Rattle.std.specs.Option.{option_copied}
use Rattle.prolly_entry.specs.declared.next.Flaw.{Flaw}
use Rattle.prolly_entry.specs.declared.next.Flaw.TheVariants.{Truncated, KeyTooLong, ValueTooLong}
use Rattle.prolly_entry.specs.declared.next.Flaw.TheVariants.{OutOfOrder, TooManyRecords}
use Rattle.prolly_text.specs.NumberLines.{optional_line}
use Rattle.prolly_text.specs.declared.numbers.records.RecordNumbers.{RecordNumbers}
use Rattle.prolly_text.specs.Notations.{written}
use Rattle.prolly_text.specs.declared.notation.Notation.{Notation}

-- What is said of a record with this flaw, behind its place.
abbrev pub flaw_text : Flaw → List ℕ
flaw_text Truncated = codes " is cut"
flaw_text KeyTooLong = codes ": key too long"
flaw_text ValueTooLong = codes ": value too long"
flaw_text OutOfOrder = codes ": key out of order"
flaw_text TooManyRecords = codes ": too many records"

-- A key as it is shown: whole where it has at most 64 bytes, and else its first 64 bytes and how
-- many it has.
abbrev pub shortened : Notation → List ℕ → List ℕ
shortened notation key =
    if nat_lt 64 (length key)
    then written notation (take 64 key) ++ codes "... (" ++ decimal (length key) ++
    codes " bytes)"
    else written notation key

-- The line of the record with this flaw behind the good ones of a file: its place, which is how many
-- these are, the offset of its first byte, which is how many bytes they take, and the flaw; and
-- lines for its key and the key before it, where there are some.
unfoldable pub flawed_text : Notation → RecordNumbers → Flaw → Option (List ℕ) → List ℕ
flawed_text notation good flaw key =
    codes "record " ++ decimal good.records ++ codes " at byte " ++ decimal good.bytes ++
    flaw_text flaw ++ 0x0A ∷ [] ++
    optional_line (codes "its key:") (option_map (shortened notation) key) ++
    optional_line (codes "the key before:")
    (option_map (shortened notation) (option_copied good.last_key))
