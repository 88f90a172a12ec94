-- A walk over the trees of two chunk files of any bytes, and what is wrong first with them for it.
-- (This project's rules.)
use Rattle.std.specs.List.{AllByRecursion}
use Rattle.std.specs.Prelude.{◌≡◌, ◌⊎◌, ℕ, List, [], ◌∷◌, Result, Ok, Err, Option, Some, None}
use Rattle.prolly_entry.specs.declared.version.Version.{Version}
use Rattle.prolly_tree.specs.Chunk.{IsIn}
use Rattle.prolly_root.specs.ChunkFile.{ChunkFile}
use Rattle.prolly_root.specs.ChunkSource.{GoesOverStill}
use Rattle.prolly_root.specs.RootFault.{TellsFailure}
use Rattle.prolly_root.specs.declared.root_fault.RootFault.{RootFault}
use Rattle.prolly_root_diff.specs.FirstFault.{ComesBy, DueAt, MayStopWith, StopsWith, TreeStep}
use Rattle.prolly_root_diff.specs.FirstFault.{tree_at}
use Rattle.prolly_root_diff.specs.Places.{AllStand}
use Rattle.prolly_root_diff.specs.Sides.{left_of}
use Rattle.prolly_root_diff.specs.Notes.{AddsNotes, read_new, read_old}
use Rattle.prolly_root_diff.specs.Walks.{IsAtEnd, IsOnward, Leads, Lefts, Move, at_roots, changes_on}
use Rattle.prolly_root_diff.specs.Walks.{AreReadable, new_steps, old_steps, read_on}
use Rattle.prolly_root_diff.specs.declared.change.RootChange.{RootChange}
use Rattle.prolly_root_diff.specs.declared.notes.Notes.{Notes}
use Rattle.prolly_root_diff.specs.declared.fault.RootDiffFault.{RootDiffFault}
use Rattle.prolly_root_diff.specs.declared.fault.RootDiffFault.TheVariants as faults
use Rattle.prolly_root_diff.specs.declared.onward.Onward.TheVariants as ways
use Rattle.prolly_root_diff.specs.declared.side.Side.{Side}
use Rattle.prolly_root_diff.specs.declared.siblings.Siblings.{Siblings}

-- ---- two files

-- A walk is to read in one of the trees next, and stops there with this fault.
abbrev pub StopsIn : Version → ChunkFile → ChunkFile → Lefts → List DueAt → List DueAt →
    RootDiffFault → Type 0
StopsIn version old new lefts due due' (faults.Old fault) =
    IsOnward lefts.before lefts.after ways.OpenOld × StopsWith version old due fault
StopsIn version old new lefts due due' (faults.New fault) =
    IsOnward lefts.before lefts.after ways.OpenNew × StopsWith version new due' fault
StopsIn version old new lefts due due' fault = ⊥

-- A walk from these roots goes this way by its rules, in two files. This is left after it, and is due
-- there.
pub record WalksThere (version : Version) (old new : ChunkFile) (root root' : List ℕ)
    (way : List Move) (lefts : Lefts) (due due' : List DueAt) : Type 0 where
  pub lead : Leads version (at_roots root root') way lefts
  pub comes : ComesBy version old (old_steps way) (tree_at root) due
  pub comes' : ComesBy version new (new_steps way) (tree_at root') due'

-- What is wrong first with two files for a walk over the trees with these roots: it goes by its rules
-- until it stops with this fault.
pub record IsWalkFault (version : Version) (old new : ChunkFile) (root root' : List ℕ)
    (fault : RootDiffFault) : Type 0 where
  pub way : List Move
  pub lefts : Lefts
  pub due : List DueAt
  pub due' : List DueAt
  pub walks : WalksThere version old new root root' way lefts due due'
  pub stops : StopsIn version old new lefts due due' fault

-- The two files have all chunks of the walk: it goes by its rules until nothing is left.
pub record HasAllOfWalk (version : Version) (old new : ChunkFile) (root root' : List ℕ) : Type 0
  where
    pub way : List Move
    pub lefts : Lefts
    pub due : List DueAt
    pub due' : List DueAt
    pub walks : WalksThere version old new root root' way lefts due due'
    pub at_end : IsAtEnd lefts.before × IsAtEnd lefts.after

-- Law: one fault is the first, and there is none where the files have all chunks.
pub record WalkFaultsAreOne : Type 0 where
  pub one : (version : Version) (old new : ChunkFile) (root root' : List ℕ)
      (fault other : RootDiffFault) → IsWalkFault version old new root root' fault →
      IsWalkFault version old new root root' other → fault ≡ other
  pub none : (version : Version) (old new : ChunkFile) (root root' : List ℕ)
      (fault : RootDiffFault) → HasAllOfWalk version old new root root' →
      IsWalkFault version old new root root' fault → ⊥

-- ---- two sources

-- Take a file that the source goes over, in which what was due stood. By these steps a walk came to
-- what is due now.
abbrev pub ComesInFile : {S T : Type 0} → (S → ChunkFile → Type 0) →
    (ChunkFile → T → ℕ → ℕ → Type 0) → Version → S → List TreeStep → List (Siblings T) →
    List (Siblings T) → Type 0
ComesInFile goes_over stands version source steps old new = (file : ChunkFile) (due : List DueAt) →
    goes_over source file → AllStand stands file old due → (due' : List DueAt) ×
    ComesBy version file steps due due' × AllStand stands file new due'

-- By these steps it came to where it stopped with this fault, or memory was refused, or a read
-- failed.
abbrev pub StopsInFile : {S T : Type 0} → (S → ChunkFile → Type 0) →
    (ChunkFile → T → ℕ → ℕ → Type 0) → Version → S → List TreeStep → List (Siblings T) →
    RootFault → Type 0
StopsInFile goes_over stands version source steps old fault = (file : ChunkFile)
    (due : List DueAt) → goes_over source file → AllStand stands file old due →
    (due' : List DueAt) × ComesBy version file steps due due' × MayStopWith version file due' fault

module _ {S T R U : Type 0} (goes_over : S → ChunkFile → Type 0)
    (stands : ChunkFile → T → ℕ → ℕ → Type 0) (goes_over' : R → ChunkFile → Type 0)
    (stands' : ChunkFile → U → ℕ → ℕ → Type 0) (version : Version) (old : S) (new : R)
    (before new_before : Side T) (after new_after : Side U) where
  -- A walk went on by its rules, in both trees. On this way it gave these changes, and took these
  -- notes.
  pub record WalksOn (given : List RootChange) (notes new_notes : Option Notes) : Type 0 where
    pub way : List Move
    pub lead : Leads version (record { before = left_of before; after = left_of after }) way
        (record { before = left_of new_before; after = left_of new_after })
    pub gives : changes_on way ≡ given
    pub noted : AddsNotes way notes new_notes
    pub comes : ComesInFile goes_over stands version old (old_steps way) before.due.items
        new_before.due.items
    pub comes' : ComesInFile goes_over' stands' version new (new_steps way) after.due.items
        new_after.due.items

  -- It went on so until it stopped with this fault in the old tree.
  pub record StopsInOld (fault : RootFault) : Type 0 where
    pub way : List Move
    pub lefts : Lefts
    pub lead : Leads version (record { before = left_of before; after = left_of after }) way lefts
    pub onward : IsOnward lefts.before lefts.after ways.OpenOld
    pub stops : StopsInFile goes_over stands version old (old_steps way) before.due.items fault
    pub comes' : ComesInFile goes_over' stands' version new (new_steps way) after.due.items
        new_after.due.items

  -- Or in the new one.
  pub record StopsInNew (fault : RootFault) : Type 0 where
    pub way : List Move
    pub lefts : Lefts
    pub lead : Leads version (record { before = left_of before; after = left_of after }) way lefts
    pub onward : IsOnward lefts.before lefts.after ways.OpenNew
    pub comes : ComesInFile goes_over stands version old (old_steps way) before.due.items
        new_before.due.items
    pub stops : StopsInFile goes_over' stands' version new (new_steps way) after.due.items fault

  -- What a call of a walk tells: that it went on to the change that it gives, or to the end of both
  -- trees; or that it stopped. With other faults it tells nothing of the trees.
  abbrev pub TellsWalk : Option Notes → Option Notes → Result (Option RootChange) RootDiffFault →
      Type 0
  TellsWalk notes new_notes (Ok None) = WalksOn [] notes new_notes × IsAtEnd (left_of new_before) ×
      IsAtEnd (left_of new_after)
  TellsWalk notes new_notes (Ok (Some change)) = WalksOn (change ∷ []) notes new_notes
  TellsWalk notes new_notes (Err (faults.Old fault)) = StopsInOld fault
  TellsWalk notes new_notes (Err (faults.New fault)) = StopsInNew fault
  TellsWalk notes new_notes (Err fault) = Unit {0}

-- ---- from the roots

-- A walk from these roots went this way by its rules, and this is left after it. What it read stands
-- where it is due in the files that the two sources go over.
pub record IsWalked (goes_over goes_over' : ChunkFile → Type 0) (version : Version)
    (root root' : List ℕ) (way : List Move) (rest : Lefts) : Type 0 where
  pub lead : Leads version (at_roots root root') way rest
  pub comes : (file : ChunkFile) → goes_over file → (due : List DueAt) ×
      ComesBy version file (old_steps way) (tree_at root) due
  pub comes' : (file : ChunkFile) → goes_over' file → (due : List DueAt) ×
      ComesBy version file (new_steps way) (tree_at root') due

-- ---- the chunks that are read

-- Law: what is read on a way can be read as chunks of the version. What is read of a tree stands in
-- the file in which the walk comes by it. So a clash with a chunk that is read on the way is one
-- between chunks of the trees and of the files.
pub record ReadChunksStand : Type 0 where
  pub readable : (version : Version) (old new : Lefts) (way : List Move) →
      Leads version old way new → AreReadable version (read_on way)
  pub of_old : (version : Version) (file : ChunkFile) (way : List Move) (due rest : List DueAt) →
      ComesBy version file (old_steps way) due rest →
      AllByRecursion (λ c. IsIn c file.chunks) (read_old way)
  pub of_new : (version : Version) (file : ChunkFile) (way : List Move) (due rest : List DueAt) →
      ComesBy version file (new_steps way) due rest →
      AllByRecursion (λ c. IsIn c file.chunks) (read_new way)
  pub either : (way : List Move) (chunk : List ℕ) → IsIn chunk (read_on way) →
      IsIn chunk (read_old way) ⊎ IsIn chunk (read_new way)

-- ---- what the sources were asked

-- The files that a source went over it goes over still, and no call failed.
pub record HasStill {S : Type 0} (goes_over : S → ChunkFile → Type 0) (failures : S → ℕ)
    (old new : S) : Type 0 where
  pub goes_still : GoesOverStill goes_over old new
  pub failures_are : failures new ≡ failures old

-- The fault is that of the source: a failed read is told where one more call failed, and only there.
pub record HasTold {S : Type 0} (goes_over : S → ChunkFile → Type 0) (failures : S → ℕ)
    (old new : S) (fault : RootFault) : Type 0 where
  pub goes_still : GoesOverStill goes_over old new
  pub told : TellsFailure (failures old) (failures new) fault

-- What a call tells of the source of the old tree.
abbrev pub TellsOld : {S C : Type 0} → (S → ChunkFile → Type 0) → (S → ℕ) → S → S →
    Result C RootDiffFault → Type 0
TellsOld goes_over failures old new (Ok given) = HasStill goes_over failures old new
TellsOld goes_over failures old new (Err (faults.Old fault)) =
    HasTold goes_over failures old new fault
TellsOld goes_over failures old new (Err fault) = HasStill goes_over failures old new

-- What a call tells of the source of the new tree.
abbrev pub TellsNew : {S C : Type 0} → (S → ChunkFile → Type 0) → (S → ℕ) → S → S →
    Result C RootDiffFault → Type 0
TellsNew goes_over failures old new (Ok given) = HasStill goes_over failures old new
TellsNew goes_over failures old new (Err (faults.New fault)) =
    HasTold goes_over failures old new fault
TellsNew goes_over failures old new (Err fault) = HasStill goes_over failures old new
