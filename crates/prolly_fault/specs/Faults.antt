-- The line and the status of each fault. (This project's texts.)
use Rattle.std.specs.Prelude.{ℕ, List, [], ◌∷◌, ◌++◌, codes}
use Rattle.prolly_link.specs.FaultTexts.{run_text}
use Rattle.prolly_link.specs.declared.fault.RunFault.{RunFault}
use Rattle.prolly_link.specs.declared.fault.RunFault.TheVariants as runs
use Rattle.prolly_check.specs.FaultTexts.{check_fault_text, stream_fault_text}
use Rattle.prolly_check.specs.declared.stream.fault.StreamFault.{StreamFault}
use Rattle.prolly_check.specs.declared.stream.fault.StreamFault.TheVariants as streams
use Rattle.prolly_check.specs.declared.verdict.fault.CheckFault.{CheckFault}
use Rattle.prolly_check.specs.declared.verdict.fault.CheckFault.TheVariants as checks
use Rattle.prolly_root.specs.FaultTexts.{proof_fault_text, root_fault_text}
use Rattle.prolly_root.specs.declared.root_fault.RootFault.{RootFault}
use Rattle.prolly_root.specs.declared.root_fault.RootFault.TheVariants as roots
use Rattle.prolly_sort.specs.FaultTexts.{store_text}
use Rattle.prolly_sort.specs.declared.fault.SorterFault.{SorterFault}
use Rattle.prolly_sort.specs.declared.fault.SorterFault.TheVariants as sorters
use Rattle.prolly_sort.specs.declared.store.StoreFault.{StoreFault}
use Rattle.prolly_sort.specs.declared.store.StoreFault.TheVariants as stores
use Rattle.prolly_text.specs.declared.lines.keys.KeysFault.TheVariants as key_faults
use Rattle.prolly_text.specs.declared.lines.reader.ReadLinesFault.{ReadLinesFault}
use Rattle.prolly_text.specs.declared.lines.reader.ReadLinesFault.TheVariants as read_lines
use Rattle.prolly_text.specs.declared.lines.pack.LinesFault.TheVariants as lines
use Rattle.prolly_text.specs.declared.lines.pack.PackFault.TheVariants as packs
use Rattle.prolly_fault.specs.declared.fault.Fault.{Fault}
use Rattle.prolly_fault.specs.declared.fault.Fault.TheVariants.{Memory, Read, Write}
use Rattle.prolly_fault.specs.declared.fault.Fault.TheVariants.{Run, Pack, Keys, Check, NoCounts}
use Rattle.prolly_fault.specs.declared.fault.Fault.TheVariants.{InputTooLong, BadKey}
use Rattle.prolly_fault.specs.declared.fault.Fault.TheVariants.{BadTextKey}
use Rattle.prolly_fault.specs.declared.fault.Fault.TheVariants.{NotUnicode}
use Rattle.prolly_fault.specs.declared.fault.Fault.TheVariants.{OutIsStdout, CheckOld}
use Rattle.prolly_fault.specs.declared.fault.Fault.TheVariants.{CheckNew}
use Rattle.prolly_fault.specs.declared.fault.Fault.TheVariants.{Proof, Root, RootOld, RootNew}
use Rattle.prolly_fault.specs.declared.fault.Fault.TheVariants.{BadRoot, LoneRoot, Stream}
use Rattle.prolly_fault.specs.declared.fault.Fault.TheVariants.{WrongBits, OtherHeader}
use Rattle.prolly_fault.specs.declared.fault.Fault.TheVariants.{LineTooLong, TooManyLines}
use Rattle.prolly_fault.specs.declared.fault.Fault.TheVariants.{DoubledKey, Store}
use Rattle.std.specs.Fmt.{decimal}
use Rattle.prolly_text.specs.LinesFaults.{keys_text, lines_text}

-- The fault of lines that are read as they come.
abbrev pub of_read_lines : ReadLinesFault → Fault
of_read_lines read_lines.Read = Read
of_read_lines (read_lines.Line fault) = Pack fault
of_read_lines (read_lines.LineTooLong line) = LineTooLong line
of_read_lines read_lines.TooManyLines = TooManyLines

-- The fault of lines whose records are put in order.
abbrev pub of_sorter : SorterFault → Fault
of_sorter (sorters.Store fault) = Store fault
of_sorter (sorters.Doubled first second) = DoubledKey first second

-- What is said of one of two files, which is told first; want of memory is no file's fault.
abbrev pub side_fault_text : List ℕ → CheckFault → List ℕ
side_fault_text side checks.Memory = check_fault_text checks.Memory
side_fault_text side fault = side ++ check_fault_text fault

-- So it is where its root is known.
abbrev pub root_side_text : List ℕ → RootFault → List ℕ
root_side_text side roots.Memory = root_fault_text roots.Memory
root_side_text side fault = side ++ root_fault_text fault

-- What is said of a fault.
abbrev pub fault_text : Fault → List ℕ
fault_text Memory = codes "out of memory"
fault_text Read = codes "file 0: read failed"
fault_text Write = codes "write failed"
fault_text (Run fault) = run_text fault
fault_text (Pack fault) = lines_text fault
fault_text (LineTooLong line) = codes "line " ++ decimal line ++ codes ": line too long"
fault_text TooManyLines = codes "too many lines"
fault_text (DoubledKey first second) = codes "line " ++ decimal second ++
    codes ": has the key of line " ++ decimal first
fault_text (Store fault) = store_text fault
fault_text (Keys fault) = keys_text fault
fault_text (Check fault) = check_fault_text fault
fault_text (Stream fault) = stream_fault_text fault
fault_text (CheckOld fault) = side_fault_text (codes "old ") fault
fault_text (CheckNew fault) = side_fault_text (codes "new ") fault
fault_text (Proof fault) = proof_fault_text fault
fault_text (Root fault) = root_fault_text fault
fault_text (RootOld fault) = root_side_text (codes "old ") fault
fault_text (RootNew fault) = root_side_text (codes "new ") fault
fault_text WrongBits = codes "the bits are not those of the tree"
fault_text OtherHeader = codes "OLD has other --bits or another --format"
fault_text NoCounts = codes "chunk file: no counts"
fault_text InputTooLong = codes "input too long"
fault_text BadKey = codes "not a key in hexadecimal"
fault_text BadTextKey = codes "not a key of text"
fault_text BadRoot = codes "not the text of a root"
fault_text LoneRoot = codes "one of --old-root and --new-root is missing"
fault_text NotUnicode = codes "a word is not UTF-8"
fault_text OutIsStdout = codes "OUT is also standard output"

-- The exit statuses. 2: usage. 3: the input is at fault. 4: a chunk file or a proof is. 5: a device
-- is. 6: memory or a thread. 7: the tree is too tall.

-- The status of a fault of a run.
abbrev pub run_status : RunFault → ℕ
run_status runs.Memory = 6
run_status (runs.Read file) = 5
run_status (runs.Truncated file place) = 3
run_status (runs.KeyTooLong file place) = 3
run_status (runs.ValueTooLong file place) = 3
run_status (runs.OutOfOrder file place) = 3
run_status (runs.TooManyRecords file) = 3
run_status runs.Write = 5
run_status runs.TooTall = 7
run_status runs.NoThread = 6
run_status runs.Lost = 6
run_status runs.TooManyFiles = 3

-- The status of runs that can't wait or be merged.
abbrev pub store_status : StoreFault → ℕ
store_status stores.Memory = 6
store_status stores.Make = 5
store_status stores.Write = 5
store_status stores.Read = 5
store_status stores.TooMany = 3

-- The status of a file that was not accepted as a chunk file.
abbrev pub check_status : CheckFault → ℕ
check_status checks.Memory = 6
check_status checks.Read = 5
check_status checks.TooLong = 4
check_status checks.BadHeader = 4
check_status (checks.BadFrame chunk) = 4
check_status checks.Truncated = 4
check_status checks.Trailing = 4
check_status (checks.BadChunk chunk) = 4
check_status (checks.KeysOutOfOrder chunk) = 4
check_status (checks.NotCanonical chunk) = 4
check_status checks.BadEnd = 4
check_status (checks.Collision chunk) = 4

-- The status of a file that is not that of the tree of a root.
abbrev pub stream_status : StreamFault → ℕ
stream_status (streams.Check fault) = check_status fault
stream_status streams.Version = 4
stream_status streams.OtherRoot = 4

-- The status of a file that has no answer to a look-up by a root.
abbrev pub root_status : RootFault → ℕ
root_status roots.Memory = 6
root_status roots.Read = 5
root_status roots.Header = 4
root_status roots.Version = 4
root_status roots.Truncated = 4
root_status (roots.Frame chunk) = 4
root_status roots.Trailing = 4
root_status roots.Missing = 4
root_status (roots.Reference chunk) = 4
root_status (roots.Chunk chunk) = 4
root_status (roots.KeysOutOfOrder chunk) = 4
root_status (roots.Level chunk) = 4

-- The status of a fault.
abbrev pub fault_status : Fault → ℕ
fault_status Memory = 6
fault_status Read = 5
fault_status Write = 5
fault_status (Run fault) = run_status fault
fault_status (Pack (lines.Pack packs.Memory)) = 6
fault_status (Pack (lines.Pack (packs.BadLine line))) = 3
fault_status (Pack (lines.BadText line)) = 3
fault_status (Pack lines.ByteOrderMark) = 3
fault_status (Pack (lines.Pack (packs.KeyTooLong line))) = 3
fault_status (Pack (lines.Pack (packs.ValueTooLong line))) = 3
fault_status (LineTooLong line) = 3
fault_status TooManyLines = 3
fault_status (DoubledKey first second) = 3
fault_status (Store fault) = store_status fault
fault_status (Keys key_faults.Memory) = 6
fault_status (Keys key_faults.ByteOrderMark) = 3
fault_status (Keys (key_faults.BadLine line)) = 3
fault_status (Keys (key_faults.BadText line)) = 3
fault_status (Keys (key_faults.KeyTooLong line)) = 3
fault_status (Keys (key_faults.NotRising line)) = 3
fault_status (Check fault) = check_status fault
fault_status (Stream fault) = stream_status fault
fault_status (CheckOld fault) = check_status fault
fault_status (CheckNew fault) = check_status fault
fault_status (Proof fault) = 4
fault_status (Root fault) = root_status fault
fault_status (RootOld fault) = root_status fault
fault_status (RootNew fault) = root_status fault
fault_status WrongBits = 3
fault_status OtherHeader = 3
fault_status NoCounts = 4
fault_status InputTooLong = 5
fault_status BadKey = 2
fault_status BadTextKey = 2
fault_status BadRoot = 2
fault_status LoneRoot = 2
fault_status NotUnicode = 2
fault_status OutIsStdout = 5

-- The line of a fault on standard error: the program's name, the text, a newline.
abbrev pub fault_line : List ℕ → List ℕ
fault_line text = codes "prolly: " ++ text ++ 0x0A ∷ []
