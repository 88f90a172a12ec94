-- What the command `apply` asks of the old file's header, and what it prints.
use Rattle.std.specs.Prelude.{◌≡◌, ℕ, Option, IfSome, Result, Ok, Err}
use Rattle.prolly_report.specs.declared.report.Report.{Report}
use Rattle.prolly_report.specs.declared.apply_fault.ApplyFault.{ApplyFault}
use Rattle.prolly_report.specs.declared.apply_fault.ApplyFault.TheVariants as applied
use Rattle.prolly_entry.specs.declared.version.Version.{Version}
use Rattle.prolly_io.specs.declared.format.header.Header.{Header}
use Rattle.prolly_root.specs.declared.root_fault.RootFault.{RootFault}
use Rattle.prolly_fault.specs.Answers.{ShowsFault, ShowsLine}
use Rattle.prolly_runs.specs.Build.{report_text}
use Rattle.prolly_fault.specs.declared.answer.Answer.{Answer}
use Rattle.prolly_fault.specs.declared.fault.Fault.{Fault}
use Rattle.prolly_fault.specs.declared.fault.Fault.TheVariants.{OtherHeader, RootOld, Run}
use Rattle.prolly_fault.specs.declared.fault.Fault.TheVariants.{WrongBits}

-- The header says the bits and the version that are given, as far as they are.
abbrev pub AgreesWith : Option ℕ → Option Version → Header → Type 0
AgreesWith bits version header =
    IfSome bits (λ bits. bits ≡ header.bits) × IfSome version (λ version. version ≡ header.version)

-- The header of the old file can't be read, or says otherwise.
abbrev pub IsRefusedHeader : Option ℕ → Option Version → Result Header RootFault → Fault → Type 0
IsRefusedHeader bits version (Ok header) fault =
    (fault ≡ OtherHeader) × (AgreesWith bits version header → ⊥)
IsRefusedHeader bits version (Err why) fault = fault ≡ RootOld why

-- The fault of a command in which a run over an old tree has no answer.
abbrev pub apply_fault : ApplyFault → Fault
apply_fault (applied.Run fault) = Run fault
apply_fault (applied.Old fault) = RootOld fault
apply_fault applied.WrongBits = WrongBits

-- The report's line, or the fault's.
abbrev pub ShowsApply : Answer → Result Report ApplyFault → Type 0
ShowsApply answer (Ok report) = ShowsLine answer (report_text report)
ShowsApply answer (Err fault) = ShowsFault answer (apply_fault fault)
