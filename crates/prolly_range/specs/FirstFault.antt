-- Why the proof of a set of keys is not made from a chunk file of any bytes. (This project's
-- rules.)
use Rattle.std.specs.Prelude.{◌≡◌, ◌-◌, ◌⊎◌, ℕ, List, [], ◌∷◌, ◌++◌, length, map, Some, None}
use Rattle.std.specs.Prelude.{Result, MatchResult}
use Rattle.prolly_look_up.specs.Content.{Content}
use Rattle.prolly_look_up.specs.Kinds.{Entries, kind_of}
use Rattle.prolly_look_up.specs.Kinds.Entries.{Leaf, Node}
use Rattle.prolly_look_up.specs.Way.{FallsTo, IsNamed, level_of}
use Rattle.prolly_entry.specs.Cut.{sha512_cut}
use Rattle.prolly_entry.specs.declared.version.Version.{Version}
use Rattle.prolly_root.specs.ChunkFile.{ChunkFile, IsLawful, chunk_file, fault_behind, file_fault}
use Rattle.prolly_root.specs.ChunkFile.{nth_in}
use Rattle.prolly_root.specs.Path.{IsPath}
use Rattle.prolly_root.specs.LookUpFault.{IsFaultOfChunk}
use Rattle.prolly_root.specs.RootFault.{MayFail}
use Rattle.prolly_root.specs.Subtree.{HasNoNth}
use Rattle.prolly_root.specs.Walk.{IsBehind, IsNth}
use Rattle.prolly_root.specs.declared.root_fault.RootFault.{RootFault}
use Rattle.prolly_tree.specs.File.{root_reference}
use Rattle.prolly_range.specs.KeySet.{KeySet, met_in}
use Rattle.prolly_range.specs.SetProof.{Due, due_below, root_due}
use Rattle.prolly_range.specs.declared.prove_fault.ProveFault.{ProveFault}
use Rattle.prolly_range.specs.declared.prove_fault.ProveFault.TheVariants as faults

-- A chunk that is due; the number of the chunk that stands where it should; and the number of that
-- with which the frames below it begin.
pub record DueAt : Type 0 where
  pub due : Due
  pub number : ℕ
  pub from : ℕ

-- At first the root is due, where the last chunk stands.
abbrev pub root_at : ChunkFile → List ℕ → KeySet → DueAt
root_at file root set =
    record { due = root_due root set; number = length file.chunks - 1; from = 0 }

-- The chunk that stands there.
abbrev pub chunk_at : ChunkFile → DueAt → List ℕ
chunk_at file at = nth_in file at.number

-- It is the one that is due.
pub record IsDue (version : Version) (file : ChunkFile) (at : DueAt) : Type 0 where
  pub named : IsNamed version at.due.reference (chunk_at file at)
  pub falls : FallsTo at.due.above (chunk_at file at)

-- The numbers of the children of a node in which keys of the set are sought, counted from 0.
abbrev pub numbers_met : KeySet → Entries → List ℕ
numbers_met set (Leaf pairs) = []
numbers_met set (Node children) = map (λ m. m.number) (met_in (λ c. c.key) 0 (Some set) children)

-- They are the children of these numbers and of this level, from where the frames of their node
-- begin.
abbrev pub AreChildren : ChunkFile → ℕ → ℕ → List ℕ → List DueAt → Type 0
AreChildren file level from [] [] = Unit {0}
AreChildren file level from [] (child ∷ children) = ⊥
AreChildren file level from (number ∷ numbers) [] = ⊥
AreChildren file level from (number ∷ numbers) (child ∷ children) =
    IsNth file level from number child.number × IsBehind file level from number child.from ×
    AreChildren file level from numbers children

-- There is no chunk where one of these children should stand.
abbrev pub LacksOne : ChunkFile → ℕ → ℕ → List ℕ → Type 0
LacksOne file level from [] = ⊥
LacksOne file level from (number ∷ numbers) =
    HasNoNth file level from number ⊎ LacksOne file level from numbers

-- The chunk of the first that is due is the right one; what is due below it is due next, before the
-- others.
pub record GoesOn (version : Version) (file : ChunkFile) (old new : List DueAt) : Type 0 where
  pub first : DueAt
  pub others : List DueAt
  pub was : old ≡ first ∷ others
  pub right : IsDue version file first
  pub below : List DueAt
  pub dues : map (λ d. d.due) below ≡ due_below (level_of (chunk_at file first)) first.due.set
      (kind_of version (chunk_at file first))
  pub stand : AreChildren file (level_of (chunk_at file first) - 1) first.from
      (numbers_met first.due.set (kind_of version (chunk_at file first))) below
  pub is : new ≡ below ++ others

-- Why the first that is due is the last one that is looked at: its chunk is not the right one, or
-- one of its children in which keys are sought is missing.
abbrev pub IsFaultAt : Version → ChunkFile → DueAt → RootFault → Type 0
IsFaultAt version file at fault =
    IsFaultOfChunk version at.due.reference at.due.above (chunk_at file at) at.number fault ⊎
    (IsDue version file at × LacksOne file (level_of (chunk_at file at) - 1) at.from
    (numbers_met at.due.set (kind_of version (chunk_at file at))) × (fault ≡ fault_behind file))

-- So it is of the first of these.
pub record StopsWith (version : Version) (file : ChunkFile) (due : List DueAt) (fault : RootFault)
    : Type 0 where
  pub first : DueAt
  pub others : List DueAt
  pub was : due ≡ first ∷ others
  pub why : IsFaultAt version file first fault

-- So it goes from these on, chunk by chunk, until it stops with this fault.
pub record StopsBehind (version : Version) (file : ChunkFile) (due : List DueAt) (fault : RootFault)
    : Type 0 where
  pub steps : List (List DueAt)
  pub last : List DueAt
  pub leads : IsPath (GoesOn version file) due steps last
  pub stops : StopsWith version file last fault

-- Or it goes on from them, chunk by chunk, until nothing is due.
pub record EndsBehind (version : Version) (file : ChunkFile) (due : List DueAt) : Type 0 where
  pub steps : List (List DueAt)
  pub leads : IsPath (GoesOn version file) due steps []

-- What is wrong first with a file for the proof of a set of keys from the root with this reference:
-- with its header or its frames, or else with the chunks of the proof, in the proof's order.
abbrev pub IsFirstSetFault : Version → ChunkFile → List ℕ → KeySet → RootFault → Type 0
IsFirstSetFault version file root set fault = (file_fault version file ≡ Some fault) ⊎
    ((file_fault version file ≡ None) × StopsBehind version file (root_at file root set ∷ []) fault)

-- The file has all chunks of the proof.
abbrev pub HasAllChunks : Version → ChunkFile → List ℕ → KeySet → Type 0
HasAllChunks version file root set =
    (file_fault version file ≡ None) × EndsBehind version file (root_at file root set ∷ [])

-- What is wrong first with the file is told, but for a failed write, a failed read or want of
-- memory.
abbrev pub TellsFirstFault : Version → ChunkFile → List ℕ → KeySet → ProveFault → Type 0
TellsFirstFault version file root set (faults.Chunks fault) =
    MayFail fault ⊎ IsFirstSetFault version file root set fault
TellsFirstFault version file root set faults.Write = Unit {0}

-- A proof was made where the file has its chunks, and else that is told.
abbrev pub TellsSetFault : {T : Type 0} → Version → ChunkFile → List ℕ → KeySet →
    Result T ProveFault → Type 0
TellsSetFault version file root set result = MatchResult result
    (λ done. HasAllChunks version file root set) (TellsFirstFault version file root set)

-- Law: one fault is the first for the proof of a set of keys, and there is none where the file has
-- all its chunks.
pub record SetFaultsAreOne : Type 0 where
  pub one : (version : Version) (file : ChunkFile) (root : List ℕ) (set : KeySet)
      (fault other : RootFault) → IsFirstSetFault version file root set fault →
      IsFirstSetFault version file root set other → fault ≡ other
  pub none : (version : Version) (file : ChunkFile) (root : List ℕ) (set : KeySet)
      (fault : RootFault) → HasAllChunks version file root set →
      IsFirstSetFault version file root set fault → ⊥

-- Law: in the chunk file of a lawful content a proof of a set of keys, from the root of its tree,
-- has no fault.
abbrev pub LawfulFilesHaveProofs : Type 0
LawfulFilesHaveProofs = (content : Content) (set : KeySet) (fault : RootFault) → IsLawful content →
    IsFirstSetFault content.version (chunk_file content)
    (root_reference (sha512_cut content.bits) content.version content.pairs) set fault → ⊥
