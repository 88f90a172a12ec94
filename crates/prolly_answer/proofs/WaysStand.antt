-- That the chunks of ways stand in the chunk file.
use Rattle.std.proofs.Common.{ℕ, List, [], ◌∷◌}
use Rattle.std.specs.List.{AllByRecursion}
use Rattle.prolly_look_up.specs.Sought.{Sought}
use Rattle.prolly_look_up.specs.Way.{IsWayTo}
use Rattle.prolly_entry.specs.declared.version.Version.{Version}
use Rattle.prolly_tree.specs.Chunk.{IsIn}
use Rattle.prolly_root.specs.ChunkFile.{ChunkFile}
use Rattle.prolly_root.specs.ChunkSource.{StandsInFile}
use Rattle.prolly_root.specs.Reader.{IsReaderIn, ReaderView, way_of}
use Rattle.prolly_root.specs.lemmas.ReadChunks.{way_stands}
use Rattle.prolly_answer.specs.RootFaults.{StandsInFileOf}

-- What holds of all elements by the one predicate does by the other.
pub all_also : {A : Type 0} (P Q : A → Type 0) → ((x : A) → P x → Q x) → (xs : List A) →
    AllByRecursion P xs → AllByRecursion Q xs
all_also P Q so [] all = tt
all_also P Q so (x ∷ xs) all = (so x all.0, all_also P Q so xs all.1)

-- Chunks that stand in each file stand each in each file.
stand_in_each : (goes_over : ChunkFile → Type 0) (chunks : List (List ℕ)) →
    ((file : ChunkFile) → goes_over file → AllByRecursion (λ c. IsIn c file.chunks) chunks) →
    AllByRecursion (StandsInFile goes_over) chunks
stand_in_each goes_over [] each = tt
stand_in_each goes_over (chunk ∷ chunks) each = (
  λ file goes. (each file goes).0,
  stand_in_each goes_over chunks (λ file goes. (each file goes).1),
)

-- The way that a reader of these files went stands in each of them.
pub way_stands_in : {T : Type 0} (stands : ChunkFile → T → ℕ → ℕ → Type 0)
    (goes_over : ChunkFile → Type 0) (reader : ReaderView T) →
    ((file : ChunkFile) → goes_over file → IsReaderIn stands file reader) → (version : Version)
    (root : List ℕ) (sought : Sought) → IsWayTo version root sought (way_of reader) →
    AllByRecursion (StandsInFile goes_over) (way_of reader)
way_stands_in stands goes_over reader of version root sought way =
    stand_in_each goes_over (way_of reader)
    (λ file goes. way_stands stands file version root sought reader (of file goes) way)

-- It stands in each file that the reader was opened for and is one of still.
pub way_stands_of : {T : Type 0} (stands : ChunkFile → T → ℕ → ℕ → Type 0)
    (goes_over : ChunkFile → Type 0) (begun reader : ReaderView T) → ((file : ChunkFile) →
    goes_over file → IsReaderIn stands file begun → IsReaderIn stands file reader) →
    (version : Version) (root : List ℕ) (sought : Sought) →
    IsWayTo version root sought (way_of reader) →
    AllByRecursion (StandsInFileOf stands goes_over begun) (way_of reader)
way_stands_of stands goes_over begun reader kept version root sought way = way_stands_in stands
    (λ file. goes_over file × IsReaderIn stands file begun) reader
    (λ file goes. kept file goes.0 goes.1) version root sought way
