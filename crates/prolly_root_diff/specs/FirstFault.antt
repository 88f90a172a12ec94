-- What is wrong first with a chunk file of any bytes for a walk over its tree. (This project's
-- rules.)
use Rattle.std.specs.Prelude.{◌≡◌, ◌-◌, ◌⊎◌, ℕ, suc, List, [], ◌∷◌, ◌++◌, map, length, Option, Some}
use Rattle.std.specs.Prelude.{None}
use Rattle.prolly_look_up.specs.Content.{Content}
use Rattle.prolly_look_up.specs.Kinds.{kind_of}
use Rattle.prolly_look_up.specs.Way.{FallsTo, IsNamed, level_of}
use Rattle.prolly_entry.specs.Cut.{sha512_cut}
use Rattle.prolly_entry.specs.declared.version.Version.{Version}
use Rattle.prolly_tree.specs.File.{root_reference}
use Rattle.prolly_root.specs.ChunkFile.{ChunkFile, IsLawful, chunk_file, fault_behind, file_fault}
use Rattle.prolly_root.specs.ChunkFile.{nth_in}
use Rattle.prolly_root.specs.LookUpFault.{IsFaultOfChunk}
use Rattle.prolly_root.specs.RootFault.{MayFail}
use Rattle.prolly_root.specs.Subtree.{HasNoNth}
use Rattle.prolly_root.specs.Walk.{IsBehind, IsNth}
use Rattle.prolly_root.specs.declared.root_fault.RootFault.{RootFault}
use Rattle.prolly_root_diff.specs.Left.{references_in}

-- ---- where a chunk is to stand

-- The root, at the end of the file. Or `Child level from number`: the child of this number, counted
-- from 0, of a node of this level. The frames below that node begin with that of the chunk `from`.
pub data Spot : Type 0 where
  Root : Spot
  Child : ℕ → ℕ → ℕ → Spot

-- The level of the node above it.
abbrev pub level_over : Spot → Option ℕ
level_over Spot.Root = None
level_over (Spot.Child level from number) = Some level

-- The chunk of this number stands there, and the frames below it begin with that of the chunk
-- `below`.
abbrev pub IsAtSpot : Version → ChunkFile → Spot → ℕ → ℕ → Type 0
IsAtSpot version file Spot.Root n below =
    (file_fault version file ≡ None) × (n ≡ length file.chunks - 1) × (below ≡ 0)
IsAtSpot version file (Spot.Child level from number) n below =
    IsNth file (level - 1) from number n × IsBehind file (level - 1) from number below

-- None stands there, and this is told: what is wrong with the header or the frames, or how the file
-- ends.
abbrev pub IsMissing : Version → ChunkFile → Spot → RootFault → Type 0
IsMissing version file Spot.Root fault = file_fault version file ≡ Some fault
IsMissing version file (Spot.Child level from number) fault =
    HasNoNth file (level - 1) from number × (fault ≡ fault_behind file)

-- ---- what is due

-- A subtree that is due: the reference of its top, and where that is to stand.
pub record DueAt : Type 0 where
  pub reference : List ℕ
  pub spot : Spot

-- The whole tree with this root.
abbrev pub tree_at : List ℕ → List DueAt
tree_at root = record { reference = root; spot = Spot.Root } ∷ []

-- The subtrees below a node of this level, from the child of this number on.
abbrev pub children_at : ℕ → ℕ → ℕ → List (List ℕ) → List DueAt
children_at level from number [] = []
children_at level from number (reference ∷ references) =
    record { reference = reference; spot = Spot.Child level from number } ∷
    children_at level from (suc number) references

-- Those below this chunk.
abbrev pub due_under : Version → List ℕ → ℕ → List DueAt
due_under version chunk from =
    children_at (level_of chunk) from 0 (references_in (kind_of version chunk))

-- ---- one step, and where it stops

-- This chunk stands where the first subtree is due. It is the one that is due, and the subtrees below
-- it are due in its place.
pub record ReadsAt (version : Version) (file : ChunkFile) (chunk : List ℕ) (old new : List DueAt)
    : Type 0 where
  pub first : DueAt
  pub others : List DueAt
  pub was : old ≡ first ∷ others
  pub number : ℕ
  pub from : ℕ
  pub stands : IsAtSpot version file first.spot number from
  pub chunk_is : chunk ≡ nth_in file number
  pub named : IsNamed version first.reference chunk
  pub falls : FallsTo (level_over first.spot) chunk
  pub is : new ≡ due_under version chunk from ++ others

-- Why a subtree is not read: no chunk stands there, or not the one that is due.
abbrev pub IsFaultAt : Version → ChunkFile → DueAt → RootFault → Type 0
IsFaultAt version file due fault = IsMissing version file due.spot fault ⊎
    ((n : ℕ) × (from : ℕ) × IsAtSpot version file due.spot n from ×
    IsFaultOfChunk version due.reference (level_over due.spot) (nth_in file n) n fault)

-- Why the first subtree that is due is not read.
pub record StopsWith (version : Version) (file : ChunkFile) (due : List DueAt) (fault : RootFault)
    : Type 0 where
  pub first : DueAt
  pub others : List DueAt
  pub was : due ≡ first ∷ others
  pub why : IsFaultAt version file first fault

-- Or memory was refused, or a read failed.
abbrev pub MayStopWith : Version → ChunkFile → List DueAt → RootFault → Type 0
MayStopWith version file due fault = MayFail fault ⊎ StopsWith version file due fault

-- ---- from step to step

-- What a walk does of a tree: it reads a chunk in the place of the first subtree that is due, or goes
-- on after that subtree.
pub data TreeStep : Type 0 where
  Reads : List ℕ → TreeStep
  Passes : TreeStep

-- By these steps it comes from what was due to what is due then.
abbrev pub ComesBy : Version → ChunkFile → List TreeStep → List DueAt → List DueAt → Type 0
ComesBy version file [] old new = old ≡ new
ComesBy version file (TreeStep.Reads chunk ∷ steps) old new = (mid : List DueAt) ×
    ReadsAt version file chunk old mid × ComesBy version file steps mid new
ComesBy version file (TreeStep.Passes ∷ steps) old new = (first : DueAt) × (mid : List DueAt) ×
    (old ≡ first ∷ mid) × ComesBy version file steps mid new

-- The chunks that it reads by them.
abbrev pub read_by : List TreeStep → List (List ℕ)
read_by [] = []
read_by (TreeStep.Reads chunk ∷ steps) = chunk ∷ read_by steps
read_by (TreeStep.Passes ∷ steps) = read_by steps

-- Law: in the chunk file of a lawful content no walk over its tree, from the root on, comes to where
-- it stops with a fault.
abbrev pub LawfulFilesAreWalked : Type 0
LawfulFilesAreWalked = (content : Content) (steps : List TreeStep) (due : List DueAt)
    (fault : RootFault) → IsLawful content →
    ComesBy content.version (chunk_file content) steps
    (tree_at (root_reference (sha512_cut content.bits) content.version content.pairs)) due →
    StopsWith content.version (chunk_file content) due fault → ⊥

-- ---- a walk over the leaves

-- It reads these chunks, one after another, and comes from what was due to what is due then.
abbrev pub ReadsEach : Version → ChunkFile → List (List ℕ) → List DueAt → List DueAt → Type 0
ReadsEach version file read old new =
    ComesBy version file (map (λ c. TreeStep.Reads c) read) old new

-- It comes from the one to the other by reading some.
pub record ReadsOn (version : Version) (file : ChunkFile) (old new : List DueAt) : Type 0 where
  pub read : List (List ℕ)
  pub comes : ReadsEach version file read old new

-- It does so until it stops with this fault.
pub record StopsBehind (version : Version) (file : ChunkFile) (due : List DueAt) (fault : RootFault)
    : Type 0 where
  pub last : List DueAt
  pub on : ReadsOn version file due last
  pub stops : StopsWith version file last fault

-- Or memory was refused, or a read failed.
abbrev pub MayStopBehind : Version → ChunkFile → List DueAt → RootFault → Type 0
MayStopBehind version file due fault = MayFail fault ⊎ StopsBehind version file due fault

-- What is wrong first with a file for a walk over the leaves of the tree with this root. The walk goes
-- from left to right, a node before its children. It stops at the first chunk that is missing, or is
-- not the one that is due.
abbrev pub IsLeafFault : Version → ChunkFile → List ℕ → RootFault → Type 0
IsLeafFault version file root fault = StopsBehind version file (tree_at root) fault

-- The file has all chunks of the tree: such a walk comes to its end.
abbrev pub HasAllLeaves : Version → ChunkFile → List ℕ → Type 0
HasAllLeaves version file root = ReadsOn version file (tree_at root) []

-- What is wrong first with a file that a source goes over is told; or memory was refused, or a read
-- failed.
abbrev pub TellsLeafFault : (ChunkFile → Type 0) → Version → List ℕ → RootFault → Type 0
TellsLeafFault goes_over version root fault = (file : ChunkFile) → goes_over file →
    MayFail fault ⊎ IsLeafFault version file root fault

-- Such a fault is told; or none, where the file has all chunks.
abbrev pub TellsLeaves : (ChunkFile → Type 0) → Version → List ℕ → Option RootFault → Type 0
TellsLeaves goes_over version root None = (file : ChunkFile) → goes_over file →
    HasAllLeaves version file root
TellsLeaves goes_over version root (Some fault) = TellsLeafFault goes_over version root fault

-- Law: one fault is the first, and there is none where the file has all chunks.
pub record LeafFaultsAreOne : Type 0 where
  pub one : (version : Version) (file : ChunkFile) (root : List ℕ) (fault other : RootFault) →
      IsLeafFault version file root fault → IsLeafFault version file root other → fault ≡ other
  pub none : (version : Version) (file : ChunkFile) (root : List ℕ) (fault : RootFault) →
      HasAllLeaves version file root → IsLeafFault version file root fault → ⊥
