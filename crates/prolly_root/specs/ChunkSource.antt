-- What gives the chunks of a tree.
use Rattle.std.specs.Prelude.{◌≡◌, ℕ, ◌-◌, ◌⊎◌, List, length, Some, None, Result, Ok, Err}
use Rattle.prolly_look_up.specs.Content.{Content}
use Rattle.prolly_entry.specs.declared.version.Version.{Version}
use Rattle.prolly_tree.specs.Chunk.{IsIn}
use Rattle.prolly_root.specs.ChunkFile.{ChunkFile, IsLawful, chunk_file, fault_behind, file_fault}
use Rattle.prolly_root.specs.RootFault.{OnlyRead, TellsReads}
use Rattle.prolly_root.specs.Subtree.{HasNoNth}
use Rattle.prolly_root.specs.Walk.{IsBehind, IsNth}
use Rattle.prolly_root.specs.declared.root_fault.RootFault.{RootFault}

-- It goes over the chunk file of this content, and the content is lawful.
pub record GoesOverTree {S : Type 0} (goes_over : S → ChunkFile → Type 0) (source : S)
    (content : Content) : Type 0 where
  pub lawful : IsLawful content
  pub goes : goes_over source (chunk_file content)

-- The files that it went over it goes over still.
abbrev pub GoesOverStill : {S : Type 0} → (S → ChunkFile → Type 0) → S → S → Type 0
GoesOverStill goes_over old new = (file : ChunkFile) → goes_over old file → goes_over new file

-- The chunk stands in each file that a source goes over.
abbrev pub StandsInFile : (ChunkFile → Type 0) → List ℕ → Type 0
StandsInFile goes_over chunk = (file : ChunkFile) → goes_over file → IsIn chunk file.chunks

-- A source was asked: the files that it went over it goes over still, and a call that failed is
-- told.
abbrev pub HasAsked : {S T : Type 0} → (S → ChunkFile → Type 0) → (S → ℕ) → S → S →
    Result T RootFault → Type 0
HasAsked goes_over failures old new result = GoesOverStill goes_over old new ×
    TellsReads (failures old) (failures new) result

-- The place is that of the root: of the last chunk, below which are all frames. Or it is told what is
-- wrong first with the file.
abbrev pub FindsRoot : {T : Type 0} → (ChunkFile → T → ℕ → ℕ → Type 0) → Version → ChunkFile →
    Result T RootFault → Type 0
FindsRoot stands version file (Ok place) =
    (file_fault version file ≡ None) × stands file place (length file.chunks - 1) 0
FindsRoot stands version file (Err fault) =
    OnlyRead fault ⊎ (file_fault version file ≡ Some fault)

-- The place is that of the chunk with so many of the level before it, from the chunk `from` on. Or
-- there is none, and it is told how the file ends.
abbrev pub FindsChild : {T : Type 0} → (ChunkFile → T → ℕ → ℕ → Type 0) → ChunkFile → ℕ → ℕ → ℕ →
    Result T RootFault → Type 0
FindsChild stands file level from number (Ok place) = (n : ℕ) × (below : ℕ) ×
    stands file place n below × IsNth file level from number n × IsBehind file level from number below
FindsChild stands file level from number (Err fault) =
    OnlyRead fault ⊎ ((fault ≡ fault_behind file) × HasNoNth file level from number)
