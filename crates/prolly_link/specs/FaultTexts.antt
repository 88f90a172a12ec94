-- What is said of a fault of a run. (This project's texts.)
use Rattle.std.specs.Prelude.{ℕ, List, ◌++◌, codes}
use Rattle.std.specs.Fmt.{decimal}
use Rattle.prolly_link.specs.declared.fault.RunFault.{RunFault}
use Rattle.prolly_link.specs.declared.fault.RunFault.TheVariants as runs

-- What is said of a record of a file.
abbrev pub record_text : ℕ → ℕ → List ℕ → List ℕ
record_text file place rest = codes "file " ++ decimal file ++ codes ": record " ++ decimal place ++
    rest

-- What is said of a fault of a run.
abbrev pub run_text : RunFault → List ℕ
run_text runs.Memory = codes "out of memory"
run_text (runs.Read file) = codes "file " ++ decimal file ++ codes ": read failed"
run_text (runs.Truncated file place) = record_text file place (codes " is cut")
run_text (runs.KeyTooLong file place) = record_text file place (codes ": key too long")
run_text (runs.ValueTooLong file place) = record_text file place (codes ": value too long")
run_text (runs.OutOfOrder file place) = record_text file place (codes ": key out of order")
run_text (runs.TooManyRecords file) = codes "file " ++ decimal file ++ codes ": too many records"
run_text runs.Write = codes "write failed"
run_text runs.TooTall = codes "tree too tall"
run_text runs.NoThread = codes "a thread could not be started"
run_text runs.Lost = codes "a worker was lost"
run_text runs.TooManyFiles = codes "too many files"
