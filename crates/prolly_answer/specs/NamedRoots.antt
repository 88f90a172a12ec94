-- What `root` answers.
use Rattle.std.specs.Prelude.{◌≡◌, ◌≢◌, ℕ, ◌⊎◌, List, Ok, Err}
use Rattle.prolly_look_up.specs.Content.{Content}
use Rattle.prolly_check.specs.declared.verdict.fault.CheckFault.{CheckFault}
use Rattle.prolly_check.specs.declared.verdict.fault.CheckFault.TheVariants.{Read, BadHeader}
use Rattle.prolly_check.specs.declared.verdict.fault.CheckFault.TheVariants.{Truncated, BadEnd}
use Rattle.prolly_entry.specs.Cut.{sha512_cut}
use Rattle.prolly_entry.specs.Reference.{reference_text}
use Rattle.prolly_entry.specs.declared.reference.Ref.{Ref}
use Rattle.prolly_io.specs.Failures.{after_failure}
use Rattle.prolly_root.specs.NamedRoot.{TellsEnd}
use Rattle.prolly_root.specs.declared.file.named_root_fault.NamedRootFault.{NamedRootFault}
use Rattle.prolly_root.specs.declared.file.named_root_fault.NamedRootFault.TheVariants as named
use Rattle.prolly_tree.specs.File.{root_reference}
use Rattle.prolly_fault.specs.Answers.{ShowsFault, ShowsLine}
use Rattle.prolly_fault.specs.declared.answer.Answer.{Answer}
use Rattle.prolly_fault.specs.declared.fault.Fault.TheVariants.{Check}

-- The fault of a check that is told where a file names no root.
abbrev pub check_fault : NamedRootFault → CheckFault
check_fault named.Read = Read
check_fault named.BadHeader = BadHeader
check_fault named.Truncated = Truncated
check_fault named.BadEnd = BadEnd

-- The answer shows the root that the end of the file tells; or the fault of the header or the end, or
-- that a read failed.
abbrev pub IsNamedRoot : List ℕ → Answer → Type 0
IsNamedRoot bytes answer =
    ((root : Ref) × TellsEnd bytes (Ok root) × ShowsLine answer (reference_text root.0))
    ⊎ ((fault : NamedRootFault) × TellsEnd bytes (Err fault) ×
    ShowsFault answer (Check (check_fault fault)))

-- A failed read is shown where one more call failed, and a line or another fault where none did.
abbrev pub TellsNamedRead : ℕ → ℕ → Answer → Type 0
TellsNamedRead old new answer =
    ((new ≡ after_failure old) × ShowsFault answer (Check Read))
    ⊎ ((new ≡ old) × (((root : Ref) × ShowsLine answer (reference_text root.0))
    ⊎ ((fault : CheckFault) × (fault ≢ Read) × ShowsFault answer (Check fault))))

-- It shows the root of this content; or that a read failed.
abbrev pub ShowsRootOf : Content → Answer → Type 0
ShowsRootOf content answer = ShowsLine answer (reference_text
    (root_reference (sha512_cut content.bits) content.version content.pairs))
    ⊎ ShowsFault answer (Check Read)
