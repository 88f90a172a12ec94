-- What is said of a run under way.
use Rattle.std.specs.Prelude.{ℕ, ◌*◌, ◌-◌, ◌/◌, Option, Some, None, List, [], ◌++◌, codes}
use Rattle.std.specs.Prelude.{max, if◌then◌else◌, ◌==◌, option_map}
use Rattle.std.specs.Fmt.{decimal}
use Rattle.std.specs.Int.{div_ceil}
use Rattle.prolly_progress.specs.declared.progress.Progress.{Progress}

-- A number of bytes in megabytes, of a million bytes each, rounded down.
abbrev pub megabytes : ℕ → ℕ
megabytes bytes = bytes / 1_000_000

-- How many megabytes were read in a second, rounded down: a byte in a millisecond is a thousandth
-- of it. Less than a millisecond counts as one.
abbrev pub rate : Progress → ℕ
rate progress = progress.read / (max progress.millis 1 * 1_000)

-- How many seconds it takes to read what is left of so many bytes, rounded up, where reading goes
-- on as it went so far. It is not known of a run that has read nothing, nor without the number.
abbrev pub seconds_to : Progress → Option ℕ → Option ℕ
seconds_to progress None = None
seconds_to progress (Some total) = if progress.read == 0 then None
    else Some (div_ceil ((total - progress.read) * progress.millis) (1_000 * progress.read))

-- How many seconds are left.
abbrev pub seconds_left : Progress → Option ℕ
seconds_left progress = seconds_to progress progress.total

-- A number between two texts where the number is known, and nothing where it is not.
abbrev pub known_text : List ℕ → Option ℕ → List ℕ → List ℕ
known_text before None behind = []
known_text before (Some number) behind = before ++ decimal number ++ behind

-- What is said of how many bytes there are to read.
abbrev pub total_text : Option ℕ → List ℕ
total_text total = known_text (codes " of ") (option_map megabytes total) []

-- What is said of how many seconds are left.
abbrev pub rest_text : Option ℕ → List ℕ
rest_text seconds = known_text (codes ", ") seconds (codes " s left")

-- What is said of what was read.
abbrev pub read_text : Progress → List ℕ
read_text progress =
    codes "read " ++ decimal progress.records ++ codes " records, "
    ++ decimal (megabytes progress.read) ++ total_text progress.total ++ codes " MB"

-- The line, as `read 32000000 records, 1234 of 3800 MB, wrote 901 MB, 310 MB/s, 9 s left`.
abbrev pub progress_line : Progress → List ℕ
progress_line progress =
    read_text progress ++ codes ", wrote " ++ decimal (megabytes progress.written)
    ++ codes " MB, " ++ decimal (rate progress) ++ codes " MB/s"
    ++ rest_text (seconds_left progress)
