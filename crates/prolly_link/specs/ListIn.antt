-- What an end over a list has left: items and then an end, or the end alone again and again.
use Rattle.std.specs.Prelude.{◌≡◌, Bool, true, false, List, [], ◌++◌}
use Rattle.prolly_link.specs.Fronts.{before_rest}
use Rattle.prolly_link.specs.Progress.{HasEnded}
use Rattle.prolly_link.specs.declared.message.End.{End}
use Rattle.prolly_link.specs.declared.message.Progress.{Progress}
use Rattle.prolly_link.specs.declared.message.Progress.TheVariants.{Open, Ended}

-- items that are not read and then an end, or the end alone where it was read
pub data Remaining (T : Type 0) : Type 0 where
  Unread : List T → End → Remaining T
  Read : End → Remaining T

module _ {T : Type 0} where
  -- what is left, by whether the end was read
  abbrev pub remaining : Bool → List T → End → Remaining T
  remaining true xs e = Read e
  remaining false xs e = Unread xs e

  -- the items that are not read: none where the end was
  abbrev pub items_left : Remaining T → List T
  items_left (Unread xs e) = xs
  items_left (Read e) = []

  -- the end behind the items
  abbrev pub last_end : Remaining T → End
  last_end (Unread xs e) = e
  last_end (Read e) = e

  -- how far it is: open until the end was read, then ended by it
  abbrev pub progress_of : Remaining T → Progress
  progress_of (Unread xs e) = Open
  progress_of (Read e) = Ended e

  -- what was lost at the front
  abbrev pub front_lost : Remaining T → Remaining T → List T
  front_lost before after = before_rest (items_left before) (items_left after)

  -- it lost items at its front at most, and its end is the same
  abbrev pub LostFront : Remaining T → Remaining T → Type 0
  LostFront before after = (items_left before ≡ front_lost before after ++ items_left after) ×
      (last_end after ≡ last_end before)

  -- the same list later: it lost items at its front, and where it had given its end it stayed as it
  -- was
  pub record IsLaterList (before after : Remaining T) : Type 0 where
    pub lost : LostFront before after
    pub stays : HasEnded (progress_of before) → after ≡ before
