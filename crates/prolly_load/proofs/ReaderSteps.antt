-- A reader that gives one thing more.
use Rattle.std.proofs.Common.{◌≡◌, ◌∙◌, ℕ, List, [], ◌∷◌, ◌++◌, Option, None}
use Rattle.std.proofs.Common.{ap, subst, sym}
use Rattle.prolly_entry.specs.Record.{Record}
use Rattle.prolly_io.specs.Source.{SourceView}
use Rattle.prolly_link.specs.Growth.{rest_is}
use Rattle.prolly_link.specs.Progress.{HasEnded}
use Rattle.prolly_link.specs.declared.fault.RunFault.TheVariants.{Memory}
use Rattle.prolly_link.specs.declared.message.End.{End}
use Rattle.prolly_link.specs.declared.message.End.TheVariants.{Fault}
use Rattle.prolly_link.specs.declared.message.Progress.TheVariants.{Open}
use Rattle.prolly_io.specs.ReadBuffer.{Held}
use Rattle.prolly_load.specs.Reader.{ComesTo, HasGiven, HasGivenFirst, IsLaterReading, IsOpen}
use Rattle.prolly_load.specs.Reader.{IsReading, Reading}
use Rattle.prolly_load.specs.lemmas.Readers.{memory_is_no_read}
use Rattle.prolly_load.proofs.LoadEnds.{memory_ends}

-- A reader that gave no end is open.
pub open_reading : (file limit count : ℕ) (begun source : SourceView) (buffered : Held)
    (records : List Record) (end : Option End) →
    IsReading file limit count begun source buffered records end → end ≡ None →
    IsOpen limit count begun source buffered records
open_reading file limit count begun source buffered records end h e = subst
    (IsReading file limit count begun source buffered records) e h

-- What an open reader gave are first good records.
pub gave_first : (file limit count : ℕ) (begun source : SourceView) (buffered : Held)
    (records : List Record) → IsOpen limit count begun source buffered records →
    ComesTo file limit begun source records (Fault Memory)
gave_first file limit count begun source buffered records h = record {
  loaded = memory_ends file limit begun.is_honest count buffered begun.left source.left [] records
      h.under_way;
  read = (λ e. absurd (memory_is_no_read file e), λ failed. absurd (failed h.unfailed));
  unfailed = λ _. h.unfailed;
  stays = h.stays;
}

-- A reader that was open, gave one record more and is open still, is the same one later.
pub one_given : (a b : Reading) (r : Record) → b.file ≡ a.file → b.limit ≡ a.limit →
    b.begun ≡ a.begun → b.records ≡ a.records ++ r ∷ [] → a.progress ≡ Open → b.progress ≡ Open →
    ComesTo b.file b.limit b.begun b.source b.records (Fault Memory) → IsLaterReading a b
one_given a b r file limit begun more open_is still first = record {
  file = file;
  limit = limit;
  begun = begun;
  later = record {
    grew = more ∙ ap (λ rs. a.records ++ rs)
        (sym (rest_is a.records (r ∷ []) b.records more));
    items_stay = λ ended. absurd (not_ended ended);
    progress_stays = λ ended. absurd (not_ended ended);
  };
  unread = λ ended. absurd (not_ended ended);
  gave_all = λ _. subst (HasGiven b) (sym still) tt;
  gave_first = λ _. subst (HasGivenFirst b) (sym still) first;
}
  where
    not_ended : HasEnded a.progress → ⊥
    not_ended ended = subst HasEnded open_is ended
