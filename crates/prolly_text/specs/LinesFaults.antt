-- What is said of a text that is not packed, and of one that is no list of keys. (This project's
-- texts.)
use Rattle.std.specs.Prelude.{ℕ, List, ◌++◌, codes}
use Rattle.std.specs.Fmt.{decimal}
use Rattle.prolly_text.specs.declared.lines.keys.KeysFault.{KeysFault}
use Rattle.prolly_text.specs.declared.lines.keys.KeysFault.TheVariants as keys
use Rattle.prolly_text.specs.declared.lines.pack.LinesFault.{LinesFault}
use Rattle.prolly_text.specs.declared.lines.pack.LinesFault.TheVariants as lines
use Rattle.prolly_text.specs.declared.lines.pack.PackFault.{PackFault}
use Rattle.prolly_text.specs.declared.lines.pack.PackFault.TheVariants as packs
use Rattle.prolly_text.specs.declared.lines.reader.ReadLinesFault.{ReadLinesFault}
use Rattle.prolly_text.specs.declared.lines.reader.ReadLinesFault.TheVariants as readers

-- What is said of a line in hexadecimal.
abbrev pub pack_text : PackFault → List ℕ
pack_text packs.Memory = codes "out of memory"
pack_text (packs.BadLine line) = codes "line " ++ decimal line ++
    codes ": not a pair in hexadecimal"
pack_text (packs.KeyTooLong line) = codes "line " ++ decimal line ++ codes ": key too long"
pack_text (packs.ValueTooLong line) = codes "line " ++ decimal line ++ codes ": value too long"

-- What is said of a line in one of the forms of lines.
abbrev pub lines_text : LinesFault → List ℕ
lines_text (lines.Pack fault) = pack_text fault
lines_text (lines.BadText line) = codes "line " ++ decimal line ++ codes ": not a pair of text"
lines_text lines.ByteOrderMark = codes "line 0: begins with a byte order mark"

-- What is said of lines that are read one after another.
abbrev pub read_lines_text : ReadLinesFault → List ℕ
read_lines_text readers.Read = codes "read failed"
read_lines_text (readers.Line fault) = lines_text fault
read_lines_text (readers.LineTooLong line) = codes "line " ++ decimal line ++
    codes ": line too long"
read_lines_text readers.TooManyLines = codes "too many lines"

-- What is said of a text that is no list of keys.
abbrev pub keys_text : KeysFault → List ℕ
keys_text keys.Memory = codes "out of memory"
keys_text keys.ByteOrderMark = codes "line 0: begins with a byte order mark"
keys_text (keys.BadLine line) = codes "line " ++ decimal line ++ codes ": not a key in hexadecimal"
keys_text (keys.BadText line) = codes "line " ++ decimal line ++ codes ": not a key of text"
keys_text (keys.KeyTooLong line) = codes "line " ++ decimal line ++ codes ": key too long"
keys_text (keys.NotRising line) = codes "line " ++ decimal line ++
    codes ": key not greater than the one before"
