-- What becomes of the source of an old tree, and what is told of its reads.
use Rattle.std.specs.Prelude.{◌≡◌, ◌≢◌, ◌⊎◌, ℕ, Option, Some, None, Result, Ok, Err, IfErr, IfSome}
use Rattle.prolly_link.specs.declared.fault.RunFault.TheVariants.{NoThread, Lost}
use Rattle.prolly_report.specs.declared.apply_fault.ApplyFault.{ApplyFault}
use Rattle.prolly_report.specs.declared.apply_fault.ApplyFault.TheVariants as answers
use Rattle.prolly_report.specs.declared.report.Report.{Report}
use Rattle.prolly_root.specs.ChunkFile.{ChunkFile}
use Rattle.prolly_root.specs.ChunkSource.{GoesOverStill}
use Rattle.prolly_root.specs.RootFault.{TellsFailure}
use Rattle.prolly_root.specs.declared.root_fault.RootFault.TheVariants.{Read}

-- Where the new tree was made, no read of the old one failed. Where the old tree is at fault, a failed
-- read is told where one more call of its source failed, and only there.
abbrev pub TellsOldReads : ℕ → ℕ → Result Report ApplyFault → Type 0
TellsOldReads old new (Ok report) = new ≡ old
TellsOldReads old new (Err (answers.Old fault)) = TellsFailure old new fault
TellsOldReads old new (Err fault) = Unit {0}

-- The source is given back, and goes over what it went over. After want of a thread and a lost worker
-- it may be gone.
abbrev pub IsGivenBack : {D : Type 0} → (D → ChunkFile → Type 0) → (D → ℕ) → D → Option D →
    Result Report ApplyFault → Type 0
IsGivenBack goes_over failures old (Some source) result = GoesOverStill goes_over old source ×
    TellsOldReads (failures old) (failures source) result
IsGivenBack goes_over failures old None result =
    (result ≡ Err (answers.Run NoThread)) ⊎ (result ≡ Err (answers.Run Lost))

-- No read of the old tree is told to have failed.
abbrev pub TellsNoOldRead : Result Report ApplyFault → Type 0
TellsNoOldRead result = IfErr result (λ fault. fault ≢ answers.Old Read)

-- Where no call of the source failed, no failed read is told.
abbrev pub IsTrueOfReads : {D : Type 0} → (D → ChunkFile → Type 0) → (D → ℕ) → Type 0
IsTrueOfReads {D} goes_over failures = (old : D) (given : Option D) (result : Result Report ApplyFault) →
    IsGivenBack goes_over failures old given result →
    IfSome given (λ source. failures source ≡ failures old) → TellsNoOldRead result
