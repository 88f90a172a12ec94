-- What a look-up by a root may tell.
use Rattle.std.specs.Prelude.{◌≡◌, ℕ, ◌⊎◌, Result, Ok, Err}
use Rattle.prolly_io.specs.Failures.{after_failure}
use Rattle.prolly_root.specs.declared.root_fault.RootFault.{RootFault}
use Rattle.prolly_root.specs.declared.root_fault.RootFault.TheVariants.{Memory, Read}

-- That a read failed is told where one more call failed, and only there.
abbrev pub TellsFailure : ℕ → ℕ → RootFault → Type 0
TellsFailure old new Read = new ≡ after_failure old
TellsFailure old new fault = new ≡ old

-- A call that gives a value met no failed call; one that gives a fault tells so whether it met one.
abbrev pub TellsReads : {T : Type 0} → ℕ → ℕ → Result T RootFault → Type 0
TellsReads old new (Ok value) = new ≡ old
TellsReads old new (Err fault) = TellsFailure old new fault

-- There is no fault but that a read failed.
abbrev pub OnlyRead : RootFault → Type 0
OnlyRead fault = fault ≡ Read

-- There is no fault but want of memory, or that a read failed.
abbrev pub MayFail : RootFault → Type 0
MayFail fault = (fault ≡ Memory) ⊎ (fault ≡ Read)

-- A call gives such a value, or fails with such a fault.
abbrev pub IsOrFails : {T : Type 0} → (T → Type 0) → (RootFault → Type 0) → Result T RootFault →
    Type 0
IsOrFails is may (Ok value) = is value
IsOrFails is may (Err fault) = may fault
