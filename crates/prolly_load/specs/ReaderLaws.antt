-- What a reader gave, in one stretch after another and in all.
use Rattle.std.proofs.Common.{◌≡◌, [], ◌++◌, refl, sym, subst, ◌∙◌}
use Rattle.prolly_link.specs.Growth.{items_between}
use Rattle.prolly_link.specs.LaterReceiver.{later_same, later_more, received_in_both}
use Rattle.prolly_link.specs.LaterReceiver.{nothing_after_end}
use Rattle.prolly_link.specs.Progress.{HasEnded}
use Rattle.prolly_load.specs.Reader.{Reading, IsLaterReading, receiving_of}

-- A reader is a later one of itself.
pub reading_same : (a : Reading) → IsLaterReading a a
reading_same a = record {
  file = refl;
  limit = refl;
  begun = refl;
  later = later_same (receiving_of a);
  unread = λ _. refl;
  gave_all = λ h. h;
  gave_first = λ h. h;
}

-- What is later than a later reader is later than the first one.
pub reading_more : (a b c : Reading) → IsLaterReading a b → IsLaterReading b c →
    IsLaterReading a c
reading_more a b c h k = record {
  file = k.file ∙ h.file;
  limit = k.limit ∙ h.limit;
  begun = k.begun ∙ h.begun;
  later = later_more (receiving_of a) (receiving_of b) (receiving_of c) h.later k.later;
  unread = λ ended. k.unread (subst HasEnded (sym (h.later.progress_stays ended)) ended) ∙
      h.unread ended;
  gave_all = λ all. k.gave_all (h.gave_all all);
  gave_first = λ first. k.gave_first (h.gave_first first);
}

-- What a reader gave in two stretches, one behind the other, is what it gave in both.
pub given_in_both : (a b c : Reading) → IsLaterReading a b → IsLaterReading b c →
    items_between a.records c.records ≡
    items_between a.records b.records ++ items_between b.records c.records
given_in_both a b c h k = received_in_both (receiving_of a) (receiving_of b) (receiving_of c)
    h.later k.later

-- A reader that has ended gives nothing more.
pub ended_gives_none : (a b : Reading) → IsLaterReading a b → HasEnded a.progress →
    items_between a.records b.records ≡ []
ended_gives_none a b h = nothing_after_end (receiving_of a) (receiving_of b) h.later
