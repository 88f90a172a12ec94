-- Why a look-up in a chunk file of any bytes finds no answer. (This project's rules.)
use Rattle.std.specs.Prelude.{◌≡◌, ◌-◌, ◌⊎◌, ℕ, List, ◌∷◌, ◌++◌, length, Option, Some, None}
use Rattle.std.specs.Prelude.{MatchResult, Result}
use Rattle.prolly_look_up.specs.Entries.{Child}
use Rattle.prolly_look_up.specs.Kinds.{kind_of}
use Rattle.prolly_look_up.specs.Kinds.Entries.{Node}
use Rattle.prolly_look_up.specs.Sought.{EndsAt, Sought, child_sought}
use Rattle.prolly_look_up.specs.Step.{IsFlawedChunk}
use Rattle.prolly_look_up.specs.Way.{FallsTo, IsNamed, level_of}
use Rattle.prolly_look_up.specs.declared.step.ChunkFlaw.{ChunkFlaw}
use Rattle.prolly_look_up.specs.declared.step.ChunkFlaw.TheVariants as flaws
use Rattle.prolly_entry.specs.declared.version.Version.{Version}
use Rattle.prolly_look_up.specs.Content.{Content}
use Rattle.prolly_entry.specs.Cut.{sha512_cut}
use Rattle.prolly_root.specs.ChunkFile.{ChunkFile, IsLawful, chunk_file, fault_behind, file_fault}
use Rattle.prolly_root.specs.ChunkFile.{nth_in}
use Rattle.prolly_tree.specs.File.{root_reference}
use Rattle.prolly_root.specs.Path.{IsPath}
use Rattle.prolly_root.specs.RootFault.{MayFail}
use Rattle.prolly_root.specs.Subtree.{HasNoNth}
use Rattle.prolly_root.specs.Walk.{IsBehind, IsNth}
use Rattle.prolly_root.specs.declared.root_fault.RootFault.{RootFault}
use Rattle.prolly_root.specs.declared.root_fault.RootFault.TheVariants as roots

-- ---- one chunk

-- The chunk of this number has this flaw.
abbrev pub fault_of_flaw : ChunkFlaw → ℕ → RootFault
fault_of_flaw flaws.Reference number = roots.Reference number
fault_of_flaw flaws.Entries number = roots.Chunk number
fault_of_flaw flaws.Order number = roots.KeysOutOfOrder number
fault_of_flaw flaws.Level number = roots.Level number

-- What is wrong first with the chunk of this number, where one with this reference is due below this
-- level.
abbrev pub IsFaultOfChunk : Version → List ℕ → Option ℕ → List ℕ → ℕ → RootFault → Type 0
IsFaultOfChunk version due above chunk number fault = (flaw : ChunkFlaw) ×
    IsFlawedChunk version due above chunk flaw × (fault ≡ fault_of_flaw flaw number)

-- ---- chunks one below another

-- Where a look-up stands in a file: a chunk with this reference is due, below one of this level, and
-- this is sought in it. The chunk that stands there has this number, and the frames below it begin
-- with that of the chunk `from`.
pub record Standing : Type 0 where
  pub reference : List ℕ
  pub above : Option ℕ
  pub sought : Sought
  pub number : ℕ
  pub from : ℕ

-- It begins at the last chunk, where the root is due.
abbrev pub at_root : ChunkFile → List ℕ → Sought → Standing
at_root file root sought = record {
  reference = root;
  above = None;
  sought = sought;
  number = length file.chunks - 1;
  from = 0;
}

-- The chunk that stands there.
abbrev pub chunk_of : ChunkFile → Standing → List ℕ
chunk_of file at = nth_in file at.number

-- It is the one that is due.
pub record HasDue (version : Version) (file : ChunkFile) (at : Standing) : Type 0 where
  pub named : IsNamed version at.reference (chunk_of file at)
  pub falls : FallsTo at.above (chunk_of file at)

-- In this chunk a look-up goes on in the child of this number, counted from 0: that has this
-- reference, and this is sought in it.
pub record GoesOnIn (version : Version) (chunk : List ℕ) (sought : Sought) (number : ℕ)
    (reference : List ℕ) (there : Sought) : Type 0 where
  pub before : List Child
  pub child : Child
  pub after : List Child
  pub are : kind_of version chunk ≡ Node (before ++ child ∷ after)
  pub number_is : number ≡ length before
  pub chosen : child_sought sought (before ++ child ∷ after) ≡ Some (child, there)
  pub reference_is : reference ≡ child.reference

-- A look-up goes one step down: to the chunk with as many of its level before it, from where the
-- frames of the node begin, as the child has children before it.
pub record StepsTo (version : Version) (file : ChunkFile) (at next : Standing) : Type 0 where
  pub due : HasDue version file at
  pub child : ℕ
  pub on : GoesOnIn version (chunk_of file at) at.sought child next.reference next.sought
  pub above : next.above ≡ Some (level_of (chunk_of file at))
  pub nth : IsNth file (level_of (chunk_of file at) - 1) at.from child next.number
  pub behind : IsBehind file (level_of (chunk_of file at) - 1) at.from child next.from

-- It goes down by these steps.
abbrev pub LeadsTo : Version → ChunkFile → Standing → List Standing → Standing → Type 0
LeadsTo version file = IsPath (StepsTo version file)

-- There is no chunk where the child should stand in which the look-up goes on.
pub record LacksChild (version : Version) (file : ChunkFile) (at : Standing) (fault : RootFault)
    : Type 0 where
  pub due : HasDue version file at
  pub child : ℕ
  pub reference : List ℕ
  pub there : Sought
  pub on : GoesOnIn version (chunk_of file at) at.sought child reference there
  pub none : HasNoNth file (level_of (chunk_of file at) - 1) at.from child
  pub is : fault ≡ fault_behind file

-- Why a look-up that stands there goes no further: the chunk is not the one that is due, or the next
-- one is missing.
abbrev pub StopsWith : Version → ChunkFile → Standing → RootFault → Type 0
StopsWith version file at fault =
    IsFaultOfChunk version at.reference at.above (chunk_of file at) at.number fault ⊎
    LacksChild version file at fault

-- Or memory was refused, or a read failed.
abbrev pub MayStop : Version → ChunkFile → Standing → RootFault → Type 0
MayStop version file at fault = MayFail fault ⊎ StopsWith version file at fault

-- Why a look-up from the root with this reference finds no answer in the file: the first fault on its
-- way down.
pub record IsLookUpFault (version : Version) (file : ChunkFile) (root : List ℕ) (sought : Sought)
    (fault : RootFault) : Type 0 where
  pub steps : List Standing
  pub last : Standing
  pub leads : LeadsTo version file (at_root file root sought) steps last
  pub stops : StopsWith version file last fault

-- The look-up comes down to a chunk at which it ends.
pub record ComesToEnd (version : Version) (file : ChunkFile) (root : List ℕ) (sought : Sought)
    : Type 0 where
  pub steps : List Standing
  pub last : Standing
  pub leads : LeadsTo version file (at_root file root sought) steps last
  pub due : HasDue version file last
  pub ends : EndsAt last.sought (kind_of version (chunk_of file last))

-- Or memory was refused, or a read failed.
abbrev pub MayTell : Version → ChunkFile → List ℕ → Sought → RootFault → Type 0
MayTell version file root sought fault =
    MayFail fault ⊎ IsLookUpFault version file root sought fault

-- A look-up has an answer where it comes to an end, and else tells its fault.
abbrev pub TellsWay : {R : Type 0} → Version → ChunkFile → List ℕ → Sought → Result R RootFault →
    Type 0
TellsWay version file root sought result = MatchResult result
    (λ value. ComesToEnd version file root sought) (MayTell version file root sought)

-- What is wrong first with a file for a look-up from the root with this reference: with its header or
-- its frames, or else on the way.
abbrev pub IsFirstFault : Version → ChunkFile → List ℕ → Sought → RootFault → Type 0
IsFirstFault version file root sought fault = (file_fault version file ≡ Some fault) ⊎
    ((file_fault version file ≡ None) × IsLookUpFault version file root sought fault)

-- ---- that it is one

-- Law: one fault is the first for a look-up in a file, and none is where it comes to an end.
pub record LookUpsTellOne : Type 0 where
  pub one : (version : Version) (file : ChunkFile) (root : List ℕ) (sought : Sought)
      (fault other : RootFault) → IsFirstFault version file root sought fault →
      IsFirstFault version file root sought other → fault ≡ other
  pub none : (version : Version) (file : ChunkFile) (root : List ℕ) (sought : Sought)
      (fault : RootFault) → ComesToEnd version file root sought →
      IsLookUpFault version file root sought fault → ⊥

-- Law: in the chunk file of a lawful content a look-up from the root of its tree has no fault.
abbrev pub LawfulFilesAreRead : Type 0
LawfulFilesAreRead = (content : Content) (sought : Sought) (fault : RootFault) → IsLawful content →
    IsFirstFault content.version (chunk_file content)
    (root_reference (sha512_cut content.bits) content.version content.pairs) sought fault → ⊥
