-- What the command `build` prints.
use Rattle.std.specs.Prelude.{ℕ, List, ◌∷◌, ◌++◌, Result, Ok, Err}
use Rattle.std.specs.Fmt.{decimal}
use Rattle.prolly_report.specs.declared.report.Report.{Report}
use Rattle.prolly_entry.specs.Reference.{reference_text}
use Rattle.prolly_link.specs.declared.fault.RunFault.{RunFault}
use Rattle.prolly_fault.specs.Answers.{ShowsLine, ShowsFault}
use Rattle.prolly_fault.specs.declared.answer.Answer.{Answer}
use Rattle.prolly_fault.specs.declared.fault.Fault.TheVariants.{Run}

-- The text of the root, and the numbers of chunks, pairs and levels, with a space before each.
abbrev pub report_text : Report → List ℕ
report_text report =
    reference_text report.root.0 ++ 0x20 ∷ decimal report.chunks ++ 0x20 ∷ decimal report.pairs ++
    0x20 ∷ decimal report.levels

-- The report's line, or the fault's.
abbrev pub ShowsBuild : Answer → Result Report RunFault → Type 0
ShowsBuild answer (Ok report) = ShowsLine answer (report_text report)
ShowsBuild answer (Err fault) = ShowsFault answer (Run fault)
