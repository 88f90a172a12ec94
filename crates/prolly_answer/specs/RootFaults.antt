-- Which fault a command tells that looks up in a chunk file by the root: where the file is that of
-- the root there is none, and of a file of any bytes it is the first. And where the chunks stand by
-- which it finds something.
use Rattle.std.specs.Prelude.{◌≡◌, ◌⊎◌, ℕ, List, [], ◌∷◌, Some}
use Rattle.prolly_look_up.specs.Content.{Content}
use Rattle.prolly_look_up.specs.Sought.{Sought}
use Rattle.prolly_look_up.specs.Sought.Sought.{Key}
use Rattle.prolly_entry.specs.Cut.{sha512_cut}
use Rattle.prolly_entry.specs.declared.version.Version.{Version}
use Rattle.prolly_root.specs.ChunkFile.{ChunkFile, IsLawful, chunk_file, file_fault}
use Rattle.prolly_root.specs.ChunkSource.{StandsInFile}
use Rattle.prolly_root.specs.LookUpFault.{IsFirstFault, MayTell}
use Rattle.prolly_root.specs.Reader.{IsReaderIn, ReaderView}
use Rattle.prolly_root.specs.RootFault.{MayFail}
use Rattle.prolly_root.specs.declared.root_fault.RootFault.{RootFault}
use Rattle.prolly_tree.specs.File.{root_reference}

-- ---- of a lawful file

-- Where the source goes over the file of a tree of this version and with this root, the fault is
-- only want of memory, or a failed read.
abbrev pub RefusesNone : (ChunkFile → Type 0) → Version → List ℕ → RootFault → Type 0
RefusesNone goes_over version root fault = (content : Content) → IsLawful content →
    goes_over (chunk_file content) → version ≡ content.version →
    root ≡ root_reference (sha512_cut content.bits) content.version content.pairs → MayFail fault

-- ---- of a file of any bytes

-- Of the file that the source goes over what is wrong first is told, but for want of memory or a
-- failed read.
abbrev pub TellsFirst : (ChunkFile → Type 0) → Version → List ℕ → Sought → RootFault → Type 0
TellsFirst goes_over version root sought fault = (file : ChunkFile) → goes_over file →
    MayFail fault ⊎ IsFirstFault version file root sought fault

-- Where a reader was opened for the file, the fault is that of the way.
abbrev pub TellsFirstOf : {T : Type 0} → (ChunkFile → T → ℕ → ℕ → Type 0) → (ChunkFile → Type 0) →
    ReaderView T → Sought → RootFault → Type 0
TellsFirstOf stands goes_over reader sought fault = (file : ChunkFile) → goes_over file →
    IsReaderIn stands file reader → MayTell reader.version file reader.root sought fault

-- The fault is that of the look-up of the first of these keys.
abbrev pub TellsFirstKeyOf : {T : Type 0} → (ChunkFile → T → ℕ → ℕ → Type 0) →
    (ChunkFile → Type 0) → ReaderView T → List (List ℕ) → RootFault → Type 0
TellsFirstKeyOf stands goes_over reader [] fault = ⊥
TellsFirstKeyOf stands goes_over reader (key ∷ keys) fault =
    TellsFirstOf stands goes_over reader (Key key) fault

-- ---- of both

-- Why a look-up by the root is refused. (The first follows from the second. It is told too, since
-- it is what a user asks.)
abbrev pub MayRefuse : (ChunkFile → Type 0) → Version → List ℕ → Sought → RootFault → Type 0
MayRefuse goes_over version root sought fault =
    RefusesNone goes_over version root fault × TellsFirst goes_over version root sought fault

-- Why the look-up of the first of these keys is refused; or where there is none, why the file is.
abbrev pub MayRefuseFirst : (ChunkFile → Type 0) → Version → List ℕ → List (List ℕ) → RootFault →
    Type 0
MayRefuseFirst goes_over version root [] fault = RefusesNone goes_over version root fault ×
    ((file : ChunkFile) → goes_over file →
    MayFail fault ⊎ (file_fault version file ≡ Some fault))
MayRefuseFirst goes_over version root (key ∷ keys) fault =
    MayRefuse goes_over version root (Key key) fault

-- ---- the chunks of a way

-- The chunk stands in each file that the source goes over and that the reader was opened for.
abbrev pub StandsInFileOf : {T : Type 0} → (ChunkFile → T → ℕ → ℕ → Type 0) →
    (ChunkFile → Type 0) → ReaderView T → List ℕ → Type 0
StandsInFileOf stands goes_over reader chunk =
    StandsInFile (λ file. goes_over file × IsReaderIn stands file reader) chunk
