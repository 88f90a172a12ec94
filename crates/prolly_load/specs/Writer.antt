-- What contracts see of a writer of a record file, and of what it leaves.
use Rattle.std.specs.Prelude.{◌≡◌, ◌≤◌, ℕ, Bool, true, false, List, [], ◌++◌, length, Result, Ok, Err}
use Rattle.std.specs.List.{flat_map}
use Rattle.prolly_entry.specs.Prefix.{IsPrefix}
use Rattle.prolly_entry.specs.Record.{Record}
use Rattle.prolly_entry.specs.Spelling.{record_spelling}
use Rattle.prolly_io.specs.Sink.{SinkView, IsSettled, TakesPrefix}
use Rattle.prolly_io.specs.Writes.{Writes}
use Rattle.prolly_link.specs.Identity.{LinkId, sink_link}
use Rattle.prolly_link.specs.declared.message.End.{End}

-- A writer: its sink as it was when the writer was made and as the writes left it, the records that
-- were sent, and whether a call of the sink failed.
pub record Writing : Type 0 where
  pub begun : SinkView
  pub sink : SinkView
  pub records : List Record
  pub has_failed : Bool

-- A writer to which nothing was sent yet.
abbrev pub new_writing : SinkView → Writing
new_writing sink = record { begun = sink; sink = sink; records = []; has_failed = false }

-- The link to a sink, by what it was at first.
abbrev pub link_to : SinkView → LinkId
link_to sink = sink_link sink.is_keeping sink.taken sink.failures

-- The records of a record file: their spellings, one after another.
abbrev pub spellings : List Record → List ℕ
spellings records = flat_map record_spelling records

-- Whether a call failed, as a result.
abbrev pub outcome : Bool → Result (Unit {0}) (Unit {0})
outcome false = Ok tt
outcome true = Err tt

-- The records that were sent are written: the sink took all of them. Where a call failed, it took
-- a part of one record more, which was not sent.
pub record AreWritten (w : Writing) : Type 0 where
  pub more : List Record
  pub one_at_most : length more ≤ 1
  pub writes : Writes (spellings (w.records ++ more)) w.begun w.sink (outcome w.has_failed)
  pub no_more : w.has_failed ≡ false → more ≡ []
  pub sent : w.begun.is_keeping ≡ true →
      IsPrefix (w.begun.taken ++ spellings w.records) w.sink.taken

-- What a writer leaves, and the end that was sent.
pub record Written : Type 0 where
  pub writing : Writing
  pub end : End

-- The records are written, and where no call failed, the sink holds none of their bytes back.
pub record IsWritten (w : Writing) : Type 0 where
  pub written : AreWritten w
  pub settled : w.has_failed ≡ false → IsSettled w.sink

-- The sink has the whole record file of these records behind what it had taken, and holds none of
-- it back.
pub record HasFile (records : List Record) (old new : SinkView) : Type 0 where
  pub taken : new.taken ≡ old.taken ++ spellings records
  pub settled : new.settled ≡ new.taken

-- The sink has a part of the record file of these records, or of them and one record more, behind
-- what it had taken.
pub record HasPart (records : List Record) (old new : SinkView) : Type 0 where
  pub more : List Record
  pub one_at_most : length more ≤ 1
  pub part : TakesPrefix old.taken new.taken (spellings (records ++ more))
