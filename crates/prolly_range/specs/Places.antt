-- Where the chunks that are due stand in a chunk file of any bytes, as a source finds them.
use Rattle.std.specs.Prelude.{◌≡◌, ◌⊎◌, ℕ, List, [], ◌∷◌, Option, Some, None, Result, Ok}
use Rattle.std.specs.Prelude.{Err}
use Rattle.prolly_entry.specs.declared.version.Version.{Version}
use Rattle.prolly_root.specs.ChunkFile.{ChunkFile, fault_behind}
use Rattle.prolly_root.specs.RootFault.{MayFail}
use Rattle.prolly_root.specs.declared.root_fault.RootFault.{RootFault}
use Rattle.prolly_range.specs.Prover.{located_due}
use Rattle.prolly_range.specs.FirstFault.{AreChildren, DueAt, EndsBehind, GoesOn, LacksOne}
use Rattle.prolly_range.specs.FirstFault.{StopsBehind}
use Rattle.prolly_range.specs.FirstFault.{StopsWith}
use Rattle.prolly_range.specs.declared.located.Located.{Located}
use Rattle.prolly_range.specs.declared.prove_fault.ProveFault.{ProveFault}
use Rattle.prolly_range.specs.declared.prove_fault.ProveFault.TheVariants as faults

-- What is due is that, and its place is there.
abbrev pub StandsAs : {T : Type 0} → (ChunkFile → T → ℕ → ℕ → Type 0) → ChunkFile → Located T →
    DueAt → Type 0
StandsAs stands file located at =
    (located_due located ≡ at.due) × stands file located.place at.number at.from

-- So it is with each.
abbrev pub EachStandsAs : {T : Type 0} → (ChunkFile → T → ℕ → ℕ → Type 0) → ChunkFile →
    List (Located T) → List DueAt → Type 0
EachStandsAs stands file [] [] = Unit {0}
EachStandsAs stands file [] (at ∷ others) = ⊥
EachStandsAs stands file (first ∷ located) [] = ⊥
EachStandsAs stands file (first ∷ located) (at ∷ others) =
    StandsAs stands file first at × EachStandsAs stands file located others

-- The children of these numbers were found.
abbrev pub AreFound : {T : Type 0} → (ChunkFile → T → ℕ → ℕ → Type 0) → ChunkFile → ℕ → ℕ →
    List ℕ → List (Located T) → Type 0
AreFound stands file level from numbers found = (children : List DueAt) ×
    AreChildren file level from numbers children × EachStandsAs stands file found children

-- Or one of them is missing, and it is told how the file ends.
abbrev pub MayLack : ChunkFile → ℕ → ℕ → List ℕ → RootFault → Type 0
MayLack file level from numbers fault = MayFail fault ⊎
    (LacksOne file level from numbers × (fault ≡ fault_behind file))

-- One chunk was read, and what is due next is found; or nothing was due; or it stops there.
abbrev pub TellsNext : {T C : Type 0} → (ChunkFile → T → ℕ → ℕ → Type 0) → Version → ChunkFile →
    List DueAt → List (Located T) → Result (Option C) RootFault → Type 0
TellsNext stands version file due located (Ok None) = due ≡ []
TellsNext stands version file due located (Ok (Some chunk)) = (next : List DueAt) ×
    GoesOn version file due next × EachStandsAs stands file located next
TellsNext stands version file due located (Err fault) =
    MayFail fault ⊎ StopsWith version file due fault

-- All that was due was written, or it stopped.
abbrev pub TellsRest : {C : Type 0} → Version → ChunkFile → List DueAt → Result C ProveFault →
    Type 0
TellsRest version file due (Ok done) = EndsBehind version file due
TellsRest version file due (Err (faults.Chunks fault)) =
    MayFail fault ⊎ StopsBehind version file due fault
TellsRest version file due (Err faults.Write) = Unit {0}
