-- A reader that looks up by the root again and again.
use Rattle.std.specs.Prelude.{◌≡◌, ℕ, ◌-◌, List, [], length, take, OnErr, Result}
use Rattle.std.specs.List.{AllByRecursion}
use Rattle.prolly_look_up.specs.ScanWay.{IsScanWay}
use Rattle.prolly_look_up.specs.Sought.{Sought}
use Rattle.prolly_entry.specs.Pair.{Pair}
use Rattle.prolly_entry.specs.declared.version.Version.{Version}
use Rattle.prolly_root.specs.ChunkFile.{ChunkFile}
use Rattle.prolly_root.specs.ChunkSource.{HasAsked}
use Rattle.prolly_root.specs.Descent.{IsKeptOf, chunks_on_way}
use Rattle.prolly_root.specs.LookUpFault.{TellsWay}
use Rattle.prolly_root.specs.declared.look_up.chunk_on_way.ChunkOnWay.{ChunkOnWay}
use Rattle.prolly_root.specs.declared.root_fault.RootFault.{RootFault}

-- What a reader keeps: the version and the root that it was opened for, the place of the root, and
-- what the last look-up went through, from the root down.
pub record ReaderView (T : Type 0) : Type 0 where
  pub version : Version
  pub root : List ℕ
  pub top : T
  pub levels : List (ChunkOnWay T)

-- The chunks that show what the last look-up has found.
abbrev pub way_of : {T : Type 0} → ReaderView T → List (List ℕ)
way_of reader = chunks_on_way reader.levels

-- The reader is that of the same root, and keeps nothing.
pub record IsEmptied {T : Type 0} (old new : ReaderView T) : Type 0 where
  pub version : new.version ≡ old.version
  pub root : new.root ≡ old.root
  pub top : new.top ≡ old.top
  pub levels : new.levels ≡ []

-- What the reader keeps stands in this file.
pub record IsReaderIn {T : Type 0} (stands : ChunkFile → T → ℕ → ℕ → Type 0) (file : ChunkFile)
    (reader : ReaderView T) : Type 0 where
  pub top : stands file reader.top (length file.chunks - 1) 0
  pub levels : AllByRecursion (IsKeptOf stands file) reader.levels

-- A look-up in a source. The reader is that of the same version and root, and keeps nothing after a
-- fault. In a chunk file that the source goes over, whatever its bytes are, the look-up has an
-- answer where it comes to an end, and else tells the first fault on its way down, but for want of
-- memory or a failed read; and the reader is still one of that file. A failed read is told.
pub record LooksUp {S T R : Type 0} (goes_over : S → ChunkFile → Type 0) (failures : S → ℕ)
    (stands : ChunkFile → T → ℕ → ℕ → Type 0) (before after : S) (sought : Sought)
    (old new : ReaderView T) (result : Result R RootFault) : Type 0 where
  pub of : (new.version ≡ old.version) × (new.root ≡ old.root)
  pub none : OnErr result (new.levels ≡ [])
  pub kept : (file : ChunkFile) → goes_over before file → IsReaderIn stands file old →
      IsReaderIn stands file new
  pub tells : (file : ChunkFile) → goes_over before file → IsReaderIn stands file old →
      TellsWay old.version file old.root sought result
  pub asked : HasAsked goes_over failures before after result

-- These are the first pairs, at most so many, of those that a look-up of the key from the root of
-- this reference finds by these chunks.
pub record AreFirstFound (version : Version) (root key : List ℕ) (most : ℕ)
    (chunks : List (List ℕ)) (pairs : List Pair) : Type 0 where
  pub found : List Pair
  pub way : IsScanWay version root key chunks found
  pub are : pairs ≡ take most found
