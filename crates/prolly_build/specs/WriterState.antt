-- What the writer of a pipeline has written of the events that it received.
use Rattle.std.specs.Prelude.{◌≡◌, ◌≢◌, ◌<◌, ◌≤◌, ◌+◌, ◌^◌, ◌⊎◌, ℕ, min, Bool, true, false, List}
use Rattle.std.specs.Prelude.{[], ◌∷◌, ◌++◌, length, Option, Some, None}
use Rattle.std.specs.List.{flat_map, filter, AllByRecursion}
use Rattle.prolly_tree.specs.Chunk.{Chunk}
use Rattle.prolly_tree.specs.File.{frame, end_record}
use Rattle.prolly_tree.specs.Events.{has_level, greatest_count}
use Rattle.prolly_tree.specs.Pipeline.{before_second, HasSecond}
use Rattle.prolly_entry.specs.Prefix.{IsPrefix}
use Rattle.prolly_entry.specs.Reference.{reference_of}
use Rattle.prolly_io.specs.Sink.{IsSettled, SinkView, TakesPrefix}
use Rattle.prolly_link.specs.declared.message.End.{End}
use Rattle.prolly_link.specs.declared.message.End.TheVariants.{Clean, Fault}
use Rattle.prolly_link.specs.declared.fault.RunFault.{RunFault}
use Rattle.prolly_link.specs.declared.fault.RunFault.TheVariants.{Write, TooTall as TooTall_fault}
use Rattle.prolly_link.specs.declared.fault.RunFault.TheVariants.{Lost}
use Rattle.prolly_report.specs.declared.report.Report.{Report}
use Rattle.prolly_build.specs.declared.run.writer.OpenFile.{OpenFile}
use Rattle.prolly_build.specs.declared.run.writer.LastChunk.{LastChunk}
use Rattle.prolly_build.specs.declared.run.writer.WriterState.{WriterState}
use Rattle.prolly_build.specs.declared.run.writer.WriterState.TheVariants.{Writing, TooTall, Failed}

-- The header and a frame for each chunk.
abbrev pub frames_of : List ℕ → List Chunk → List ℕ
frames_of head chunks = head ++ flat_map frame chunks

-- Each chunk is short enough for its frame to spell its length; the frame of a longer one could
-- spell any bytes, also a whole file's.
abbrev pub AreSmall : List Chunk → Type 0
AreSmall chunks = AllByRecursion (λ c. length c.bytes < 2 ^ 64) chunks

-- How many of the events have the level: none, or one.
abbrev pub count_told : Bool → ℕ
count_told true = 1
count_told false = 0

-- The reference, the level and the count of the last event, if there is one.
abbrev pub IsLastOf : List Chunk → Option LastChunk → Type 0
IsLastOf events None = events ≡ []
IsLastOf events (Some told) =
    (before : List Chunk) × (last : Chunk) × (events ≡ before ++ last ∷ []) ×
    (told.reference.0 ≡ reference_of last.bytes) × (told.level ≡ last.level) ×
    (told.count ≡ last.count)

-- All events are written, of which at most one is of the last stage's level.
pub record AreAllWritten (head : List ℕ) (level : ℕ) (events : List Chunk) (old new : SinkView)
    (begun : OpenFile) : Type 0 where
  pub few : length (filter (has_level level) events) ≡ count_told begun.has_last_level
  pub small : AreSmall events
  pub unfailed : new.failures ≡ old.failures
  pub taken_is : old.is_keeping ≡ true → new.taken ≡ old.taken ++ frames_of head events
  pub keeps : old.is_keeping ≡ true → new.is_keeping ≡ true
  pub count_is : begun.file.chunks ≡ min greatest_count (length events)
  pub goes_on : begun.file.has_failed ≡ false
  pub last_is : IsLastOf events begun.last

-- The events up to, and without, the second one of the last stage's level are written.
pub record IsTall (head : List ℕ) (level : ℕ) (events : List Chunk) (old new : SinkView) : Type 0
  where
    pub second : HasSecond level events
    pub small : AreSmall (before_second level events)
    pub unfailed : new.failures ≡ old.failures
    pub taken_is : old.is_keeping ≡ true → new.taken ≡ old.taken ++
        frames_of head (before_second level events)
    pub keeps : old.is_keeping ≡ true → new.is_keeping ≡ true

-- A write failed, and what was taken is a prefix of what was to be written till then, the first of
-- the chunks.
pub record IsFailed (head : List ℕ) (level : ℕ) (events : List Chunk) (old new : SinkView) : Type 0
  where
    pub failed : new.failures ≢ old.failures
    pub tried : List Chunk
    pub small : AreSmall tried
    pub first : IsPrefix tried (before_second level events)
    pub taken_is : old.is_keeping ≡ true → TakesPrefix old.taken new.taken (frames_of head tried)
    pub keeps : old.is_keeping ≡ true → new.is_keeping ≡ true

-- The writer behind a last stage of this level, once it has received these events.
abbrev pub HasWritten : List ℕ → ℕ → List Chunk → SinkView → SinkView → WriterState → Type 0
HasWritten head level events old new (Writing begun) = AreAllWritten head level events old new begun
HasWritten head level events old new TooTall = IsTall head level events old new
HasWritten head level events old new Failed = IsFailed head level events old new

-- ---- the end

-- All events are written, and then the end record, the sink holds nothing of it back, and the
-- report is that of the last event.
pub record IsEndWritten (head : List ℕ) (level : ℕ) (events : List Chunk) (old new : SinkView)
    (report : Report) : Type 0 where
  pub before : List Chunk
  pub root : Chunk
  pub whole : events ≡ before ++ root ∷ []
  pub few : length (filter (has_level level) events) ≤ 1
  pub unfailed : new.failures ≡ old.failures
  pub taken_is : old.is_keeping ≡ true → new.taken ≡ old.taken ++
      (frames_of head events ++ end_record (reference_of root.bytes) (length events))
  pub keeps : old.is_keeping ≡ true → new.is_keeping ≡ true
  pub settled : IsSettled new
  pub root_is : report.root.0 ≡ reference_of root.bytes
  pub chunks_are : report.chunks ≡ length events
  pub pairs_are : report.pairs ≡ root.count
  pub levels_are : report.levels ≡ min 255 (root.level + 1)

-- All events are written, of which at most one is of the last stage's level, and the end record
-- failed.
pub record IsUnended (head : List ℕ) (level : ℕ) (events : List Chunk) (old new : SinkView) : Type 0
  where
    pub before : List Chunk
    pub root : Chunk
    pub whole : events ≡ before ++ root ∷ []
    pub few : length (filter (has_level level) events) ≤ 1
    pub failed : new.failures ≢ old.failures
    pub taken_is : old.is_keeping ≡ true → TakesPrefix old.taken new.taken
        (frames_of head events ++ end_record (reference_of root.bytes) (length events))
    pub keeps : old.is_keeping ≡ true → new.is_keeping ≡ true

-- Why nothing was made: the fault that came with the last link's end, which leaves the sink alone;
-- or, at a clean end, a frame or the end record that failed, or a second event of the last stage's
-- level, at which nothing more was written, or events that have no end record.
abbrev pub IsEndFault : List ℕ → ℕ → List Chunk → SinkView → SinkView → SinkView → End → RunFault →
    Type 0
IsEndFault head level events old before after (Fault fault) answer =
    (answer ≡ fault) × (after ≡ before)
IsEndFault head level events old before after Clean answer =
    ((answer ≡ Write) × (IsFailed head level events old after ⊎
    IsUnended head level events old after))
    ⊎ ((answer ≡ TooTall_fault) × IsTall head level events old after)
    ⊎ ((answer ≡ Lost) × (after ≡ before))
