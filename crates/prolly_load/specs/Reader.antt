-- What contracts see of a reader of a record file, and of the same one later.
use Rattle.std.specs.Prelude.{◌≡◌, ◌≢◌, ◌↔◌, ◌⊎◌, ◌≤◌, ℕ, true, List, [], length, Option, Some, None}
use Rattle.std.specs.List.{flat_map, AllByRecursion}
use Rattle.prolly_entry.specs.Keys.{Rising}
use Rattle.prolly_entry.specs.Prefix.{IsPrefix}
use Rattle.prolly_entry.specs.Record.{Record, IsRecord, keys_of}
use Rattle.prolly_entry.specs.Spelling.{record_spelling}
use Rattle.prolly_io.specs.Source.{SourceView}
use Rattle.prolly_link.specs.Identity.{no_link}
use Rattle.prolly_link.specs.LaterReceiver.{IsLater}
use Rattle.prolly_link.specs.Progress.{HasEnded}
use Rattle.prolly_link.specs.Views.{Receiving}
use Rattle.prolly_link.specs.declared.message.End.{End}
use Rattle.prolly_link.specs.declared.message.End.TheVariants.{Clean, Fault}
use Rattle.prolly_link.specs.declared.fault.RunFault.TheVariants.{Read, Memory}
use Rattle.prolly_link.specs.declared.message.Progress.{Progress}
use Rattle.prolly_link.specs.declared.message.Progress.TheVariants.{Open, Ended, Lost}
use Rattle.prolly_io.specs.ReadBuffer.{Held}
use Rattle.prolly_load.specs.Loaded.{IsLoaded}
use Rattle.prolly_load.specs.Loading.{IsUnderWay}

-- A reader: the number of its file, how many records it allows, its source as it was when the
-- reader was made and as the reads left it, the records that it gave, and how far it has come.
pub record Reading : Type 0 where
  pub file : ℕ
  pub limit : ℕ
  pub begun : SourceView
  pub source : SourceView
  pub records : List Record
  pub progress : Progress

-- A reader that has given nothing yet.
abbrev pub new_reading : ℕ → ℕ → SourceView → Reading
new_reading file limit source = record {
  file = file;
  limit = limit;
  begun = source;
  source = source;
  records = [];
  progress = Open;
}

-- The end that a reader gave is its progress.
abbrev pub progress_of : Option End → Progress
progress_of None = Open
progress_of (Some end) = Ended end

-- A reader as the receiver of a link.
abbrev pub receiving_of : Reading → Receiving Record
receiving_of r = record { link = no_link; items = r.records; progress = r.progress }

-- The source stayed what it was: an honest one is honest, and no read of a steady one failed.
pub record StaysAsItWas (begun source : SourceView) : Type 0 where
  pub honest : begun.is_honest ≡ true → source.is_honest ≡ true
  pub steady : begun.is_steady ≡ true → source.is_steady ≡ true
  pub never : begun.is_steady ≡ true → source.failures ≡ begun.failures

-- The records and the end are what a loader would have sent of the source. A failed read is told,
-- and nothing else is told as one.
pub record ComesTo (file limit : ℕ) (begun source : SourceView) (records : List Record) (end : End)
    : Type 0 where
  pub loaded : IsLoaded file limit begun.is_honest begun.left source.left [] records end
  pub read : (end ≡ Fault (Read file)) ↔ (source.failures ≢ begun.failures)
  pub unfailed : end ≢ Fault (Read file) → source.failures ≡ begun.failures
  pub stays : StaysAsItWas begun source

-- What a reader holds while it is open: the loading is under way, and no read failed.
pub record IsOpen (limit count : ℕ) (begun source : SourceView) (buffered : Held)
    (records : List Record) : Type 0 where
  pub under_way : IsUnderWay begun.is_honest limit count buffered begun.left source.left [] records
  pub unfailed : source.failures ≡ begun.failures
  pub stays : StaysAsItWas begun source

-- What a reader holds: a loading under way, or one that came to its end.
abbrev pub IsReading : ℕ → ℕ → ℕ → SourceView → SourceView → Held → List Record → Option End →
    Type 0
IsReading file limit count begun source buffered records None =
    IsOpen limit count begun source buffered records
IsReading file limit count begun source buffered records (Some end) =
    ComesTo file limit begun source records end

-- What a reader that has come this far gave is what its source comes to, where it has ended. None
-- has lost its sender.
abbrev pub HasGiven : Reading → Progress → Type 0
HasGiven r Open = Unit {0}
HasGiven r (Ended end) = ComesTo r.file r.limit r.begun r.source r.records end
HasGiven r Lost = ⊥

-- As long as a reader is open, what it gave is what a loader sends that is refused memory there:
-- some first good records of what its source handed out. And no read failed.
abbrev pub HasGivenFirst : Reading → Progress → Type 0
HasGivenFirst r Open = ComesTo r.file r.limit r.begun r.source r.records (Fault Memory)
HasGivenFirst r (Ended end) = Unit {0}
HasGivenFirst r Lost = Unit {0}

-- The same reader, at the same time or later: of the same file and the same source, with the
-- records that it gave and more. Where it had ended, it is as it was, and its source was not read.
-- Where the one gave all, once it has ended, so does the other. Where it gave first good records, as
-- long as it is open, so does the other.
pub record IsLaterReading (before after : Reading) : Type 0 where
  pub file : after.file ≡ before.file
  pub limit : after.limit ≡ before.limit
  pub begun : after.begun ≡ before.begun
  pub later : IsLater (receiving_of before) (receiving_of after)
  pub unread : HasEnded before.progress → after.source ≡ before.source
  pub gave_all : HasGiven before before.progress → HasGiven after after.progress
  pub gave_first : HasGivenFirst before before.progress → HasGivenFirst after after.progress

-- An honest source has left the record file of these records: they are lawful, at most `limit`
-- many, and their keys rise.
pub record HasRecords (limit : ℕ) (source : SourceView) (rs : List Record) : Type 0 where
  pub honest : source.is_honest ≡ true
  pub left : source.left ≡ flat_map record_spelling rs
  pub lawful : AllByRecursion IsRecord rs
  pub rising : Rising (keys_of rs)
  pub few : length rs ≤ limit

-- All of the records were given, and the end is clean; or a read of the file failed or memory was
-- refused, and the first of them were given.
abbrev pub GivesRecords : ℕ → List Record → List Record → End → Type 0
GivesRecords file rs records end =
    ((end ≡ Clean) × (records ≡ rs))
    ⊎ (((end ≡ Fault (Read file)) ⊎ (end ≡ Fault Memory)) × IsPrefix records rs)
