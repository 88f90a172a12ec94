-- Going down from the root, from each chunk to the one that it refers to.
use Rattle.std.specs.List.{AllByRecursion}
use Rattle.std.specs.Prelude.{◌≡◌, ℕ, List, map, Some}
use Rattle.prolly_look_up.specs.HeldPairs.{pairs_held}
use Rattle.prolly_look_up.specs.Kinds.{kind_of}
use Rattle.prolly_look_up.specs.PairsFrom.{IsLeft}
use Rattle.prolly_look_up.specs.Sought.{Sought, EndsAt, IsMark, LeadsOn, sought_of}
use Rattle.prolly_look_up.specs.Way.{FallsTo, IsNamed, IsWayTo, level_of}
use Rattle.prolly_look_up.specs.declared.step.Due.{Due}
use Rattle.prolly_entry.specs.declared.version.Version.{Version}
use Rattle.prolly_root.specs.ChunkFile.{ChunkFile, nth_in}
use Rattle.prolly_root.specs.LookUpFault.{Standing, StepsTo}
use Rattle.prolly_root.specs.declared.look_up.chunk_on_way.ChunkOnWay.{ChunkOnWay}
use Rattle.prolly_root.specs.declared.look_up.chunk_on_way.Onward.{Onward}
use Rattle.prolly_root.specs.declared.look_up.chunk_on_way.Onward.TheVariants.{End, Below}
use Rattle.prolly_root.specs.declared.look_up.descent.Descent.{Descent}

-- ---- whatever the source gives

-- The chunk has its reference, and can be read, and the marks stand between its entries.
pub record IsTested {T : Type 0} (version : Version) (chunk : ChunkOnWay T) : Type 0 where
  pub named : IsNamed version chunk.reference.0 chunk.chunk.items
  pub mark : IsMark version chunk.chunk.items chunk.mark
  pub left : IsLeft (pairs_held chunk.chunk.items) chunk.left

-- It is the one that is due.
pub record IsAtDue {T : Type 0} (version : Version) (due : Due) (chunk : ChunkOnWay T) : Type 0
  where
    pub is : IsTested version chunk
    pub reference : chunk.reference ≡ due.reference
    pub falls : FallsTo due.above chunk.chunk.items

-- The bytes of the chunks.
abbrev pub chunks_on_way : {T : Type 0} → List (ChunkOnWay T) → List (List ℕ)
chunks_on_way levels = map (λ level. level.chunk.items) levels

-- These chunks are the way of a look-up from the root of this reference to its end, and this is what
-- is sought in the last one.
pub record IsWayDown (version : Version) (root : List ℕ) (sought : Sought)
    (chunks : List (List ℕ)) (there : Sought) : Type 0 where
  pub way : IsWayTo version root sought chunks
  pub there_is : way.there ≡ there

-- The chunks of the descent are this way, and can be read.
pub record IsDescent {T : Type 0} (version : Version) (root : List ℕ) (sought : Sought)
    (descent : Descent T) : Type 0 where
  pub to : IsWayDown version root sought (chunks_on_way descent.levels.items)
      (sought_of descent.sought)
  pub all : AllByRecursion (IsTested version) descent.levels.items

-- The look-up ends at the chunk, or goes on from it at the one that is due.
abbrev pub IsOnward : {T : Type 0} → Version → Sought → List ℕ → Onward T → Type 0
IsOnward version sought chunk End = EndsAt sought (kind_of version chunk)
IsOnward version sought chunk (Below due place) =
    LeadsOn sought (kind_of version chunk) due.reference.0 (sought_of due.sought) ×
    (due.above ≡ Some (level_of chunk))

-- ---- in a chunk file of any bytes

-- The chunk stands in its place in the file.
pub record IsKeptOf {T : Type 0} (stands : ChunkFile → T → ℕ → ℕ → Type 0) (file : ChunkFile)
    (chunk : ChunkOnWay T) : Type 0 where
  pub number : ℕ
  pub from : ℕ
  pub stands_there : stands file chunk.place number from
  pub is : chunk.chunk.items ≡ nth_in file number

-- It is the chunk at which the look-up stands.
pub record IsAt {T : Type 0} (stands : ChunkFile → T → ℕ → ℕ → Type 0) (file : ChunkFile)
    (at : Standing) (chunk : ChunkOnWay T) : Type 0 where
  pub stands_there : stands file chunk.place at.number at.from
  pub is : chunk.chunk.items ≡ nth_in file at.number

-- The look-up stands there in the file, and the chunk that is due is to be in this place.
pub record IsDueAt {T : Type 0} (stands : ChunkFile → T → ℕ → ℕ → Type 0) (file : ChunkFile)
    (due : Due) (place : T) (at : Standing) : Type 0 where
  pub reference : at.reference ≡ due.reference.0
  pub above : at.above ≡ due.above
  pub sought : at.sought ≡ sought_of due.sought
  pub stands_there : stands file place at.number at.from

-- The look-up ends there, or goes one step down.
abbrev pub GoesOnAt : {T : Type 0} → (ChunkFile → T → ℕ → ℕ → Type 0) → Version → ChunkFile →
    Standing → Onward T → Type 0
GoesOnAt stands version file at End = Unit {0}
GoesOnAt stands version file at (Below due place) =
    (next : Standing) × StepsTo version file at next × IsDueAt stands file due place next
