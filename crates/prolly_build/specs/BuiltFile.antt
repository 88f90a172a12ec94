-- What a build has made of its sources.
use Rattle.std.specs.Prelude.{◌≡◌, ◌≢◌, ◌<◌, ◌≤◌, ℕ, true, List, [], ◌∷◌, ◌++◌, length, None, ◌-◌, ◌^◌}
use Rattle.std.specs.List.{flat_map}
use Rattle.prolly_tree.specs.Chunk.{Chunk, chunks}
use Rattle.prolly_entry.specs.Cut.{sha512_cut}
use Rattle.prolly_tree.specs.File.{file, frame, header, root_reference}
use Rattle.prolly_tree.specs.Events.{clean}
use Rattle.prolly_entry.specs.Overlay.{overlay}
use Rattle.prolly_entry.specs.Pair.{Pair}
use Rattle.prolly_tree.specs.Pipeline.{pipeline_events, within_stages}
use Rattle.prolly_entry.specs.Prefix.{IsPrefix}
use Rattle.prolly_entry.specs.Reading.{IsReading}
use Rattle.prolly_entry.specs.Record.{Record}
use Rattle.prolly_tree.specs.Tree.{level_count}
use Rattle.prolly_io.specs.Source.{SourceView}
use Rattle.prolly_io.specs.Sink.{IsSettled, SinkView, TakesPrefix}
use Rattle.prolly_link.specs.declared.message.End.{End}
use Rattle.prolly_link.specs.declared.message.End.TheVariants.{Clean, Fault}
use Rattle.prolly_link.specs.declared.fault.RunFault.{RunFault}
use Rattle.prolly_link.specs.declared.fault.RunFault.TheVariants as faults
use Rattle.prolly_load.specs.Reader.{StaysAsItWas}
use Rattle.prolly_report.specs.declared.report.Report.{Report}
use Rattle.prolly_build.specs.Config.{Settings}
use Rattle.prolly_build.specs.WriterState.{AreSmall, frames_of}

-- The sink took the chunk file of a map and holds none of it back, and the report is that of its
-- tree, which has no more levels than there are stages.
pub record IsMadeFile (settings : Settings) (m : List Pair) (old new : SinkView) (report : Report)
    : Type 0 where
  pub stages : level_count (sha512_cut settings.bits) settings.version m ≤ settings.stages
  pub taken : old.is_keeping ≡ true → new.taken ≡ old.taken ++ file (sha512_cut settings.bits)
      settings.version m
  pub settled : IsSettled new
  pub unfailed : new.failures ≡ old.failures
  pub root : report.root.0 ≡ root_reference (sha512_cut settings.bits) settings.version m
  pub chunks_are : report.chunks ≡ length (chunks (sha512_cut settings.bits) settings.version m)
  pub pairs : report.pairs ≡ length m
  pub levels : report.levels ≡ level_count (sha512_cut settings.bits) settings.version m

-- The sink took a prefix of a header and of the frames of some chunks, each of a length that its
-- frame can spell: no end record is begun. It keeps what it takes, if it did.
pub record IsBegun (settings : Settings) (old new : SinkView) : Type 0 where
  pub chunks_begun : List Chunk
  pub small : AreSmall chunks_begun
  pub taken : old.is_keeping ≡ true → TakesPrefix old.taken new.taken
      (frames_of (header settings.version settings.bits) chunks_begun)
  pub keeps : old.is_keeping ≡ true → new.is_keeping ≡ true

-- Law: what the sink took then does not begin with a header, frames and the first letter of an end
-- record, so it begins with no whole file.
abbrev pub NoEndIsBegun : Settings → SinkView → SinkView → Type 0
NoEndIsBegun settings old new = IsBegun settings old new → old.is_keeping ≡ true →
    (whole : List Chunk) (behind : List ℕ) → AreSmall whole →
    IsPrefix (old.taken ++ (header settings.version settings.bits ++
    (flat_map frame whole ++ 0x45 ∷ behind))) new.taken → ⊥

-- The chunk file of a map up to, and without, the second chunk of the last stage's level: what is
-- written of a tree that is too tall.
abbrev pub tall_file : Settings → List Pair → List ℕ
tall_file settings m =
    frames_of (header settings.version settings.bits)
    (within_stages settings.stages (chunks (sha512_cut settings.bits) settings.version m))

-- The tree of a map has more levels than there are stages. The sink has not failed, and took the
-- file up to there.
pub record IsTooTall (settings : Settings) (m : List Pair) (old new : SinkView) : Type 0 where
  pub levels : settings.stages < level_count (sha512_cut settings.bits) settings.version m
  pub unfailed : new.failures ≡ old.failures
  pub taken : old.is_keeping ≡ true → new.taken ≡ old.taken ++ tall_file settings m

-- The sink failed, and took a prefix of the file of a map; of a tree that is too tall, a prefix of
-- what is written of it.
pub record IsCutOff (settings : Settings) (m : List Pair) (old new : SinkView) : Type 0 where
  pub failed : new.failures ≢ old.failures
  pub taken : old.is_keeping ≡ true → TakesPrefix old.taken new.taken
      (file (sha512_cut settings.bits) settings.version m)
  pub tall : settings.stages < level_count (sha512_cut settings.bits) settings.version m →
      old.is_keeping ≡ true →
      TakesPrefix old.taken new.taken (tall_file settings m)

-- A fault of the writer: the sink's, or too tall a tree.
abbrev pub IsWriterFault : RunFault → Type 0
IsWriterFault faults.Write = Unit {0}
IsWriterFault faults.TooTall = Unit {0}
IsWriterFault _ = ⊥

-- Why the file of a map was not made, at a fault of the writer, and what the sink took of it.
abbrev pub IsUnmadeOf : Settings → List Pair → SinkView → SinkView → RunFault → Type 0
IsUnmadeOf settings m old new faults.Write = IsCutOff settings m old new
IsUnmadeOf settings m old new faults.TooTall = IsTooTall settings m old new
IsUnmadeOf settings m old new _ = ⊥

-- What the stages sent, where it ended clean: what they make of a map of so many pairs as can be
-- counted.
pub record IsCleanRun (settings : Settings) (m : List Pair) (events : List Chunk) : Type 0 where
  pub few : length m < 2 ^ 64
  pub sent : events ≡ pipeline_events (settings.stages - 1) (sha512_cut settings.bits)
      settings.version clean m

-- Where the end is clean, the events are those of this map.
abbrev pub IsRunOf : Settings → List Pair → List Chunk → End → Type 0
IsRunOf settings m events end = end ≡ Clean → IsCleanRun settings m events

module _ {S : Type 0} (seen : S → SourceView) where
  -- No read of the source failed, and some bytes are these records, one after another, and nothing
  -- else. Where it is honest they are all that it had left.
  pub record IsRead (limit : ℕ) (before after : S) (good : List Record) : Type 0 where
    pub bytes : List ℕ
    pub left : (seen before).is_honest ≡ true → bytes ≡ (seen before).left
    pub reading : IsReading bytes limit good None
    pub unfailed : (seen after).failures ≡ (seen before).failures

  -- So it is with each source, in its place.
  abbrev pub AreRead : ℕ → List S → List S → List (List Record) → Type 0
  AreRead limit [] [] [] = Unit {0}
  AreRead limit (s ∷ ss) (t ∷ ts) (g ∷ gs) = IsRead limit s t g × AreRead limit ss ts gs
  AreRead limit _ _ _ = ⊥

  -- The source is there as its loader left it, and it stayed what it was: an honest one is honest,
  -- and a steady one is steady, of which no read failed. Behind some bytes that an honest one
  -- handed out are those that it has left.
  pub record IsKept (before after : S) : Type 0 where
    pub stays : StaysAsItWas (seen before) (seen after)
    pub handed : List ℕ
    pub rest : (seen before).is_honest ≡ true → (seen before).left ≡ handed ++ (seen after).left

  -- The sources are there, each in its place.
  abbrev pub AreKept : List S → List S → Type 0
  AreKept [] [] = Unit {0}
  AreKept (s ∷ ss) (t ∷ ts) = IsKept s t × AreKept ss ts
  AreKept _ _ = ⊥

  -- The sources were read, each to its end, and the file of the overlay of their records was made.
  pub record IsBuilt (settings : Settings) (before after : List S) (old new : SinkView)
      (report : Report) : Type 0 where
    pub goods : List (List Record)
    pub read : AreRead settings.max_records before after goods
    pub made : IsMadeFile settings (overlay goods) old new report

  -- The sources were read, each to its end, and the file of the overlay of their records was not
  -- made, for this fault of the writer.
  pub record IsUnmade (settings : Settings) (before after : List S) (old new : SinkView)
      (fault : RunFault) : Type 0 where
    pub goods : List (List Record)
    pub read : AreRead settings.max_records before after goods
    pub unmade : IsUnmadeOf settings (overlay goods) old new fault

-- A fault of a record file, or want of memory.
abbrev pub IsLoadFault : RunFault → Type 0
IsLoadFault faults.Memory = Unit {0}
IsLoadFault (faults.Read f) = Unit {0}
IsLoadFault (faults.Truncated f place) = Unit {0}
IsLoadFault (faults.KeyTooLong f place) = Unit {0}
IsLoadFault (faults.ValueTooLong f place) = Unit {0}
IsLoadFault (faults.OutOfOrder f place) = Unit {0}
IsLoadFault (faults.TooManyRecords f) = Unit {0}
IsLoadFault _ = ⊥

-- An end that the workers of a build may send.
abbrev pub IsInputEnd : End → Type 0
IsInputEnd Clean = Unit {0}
IsInputEnd (Fault fault) = IsLoadFault fault

-- A fault of a build that started nothing.
abbrev pub IsStartFault : RunFault → Type 0
IsStartFault faults.NoThread = Unit {0}
IsStartFault faults.TooManyFiles = Unit {0}
IsStartFault _ = ⊥
