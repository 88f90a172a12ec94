-- The messages that passed the ends of a link.
use Rattle.std.specs.Prelude.{◌≡◌, ◌≢◌, List, [], ◌∷◌, ◌++◌}
use mathlib.Core.List.{IsPrefix}
use Rattle.prolly_link.specs.Views.{Receiving, Whole}
use Rattle.prolly_link.specs.declared.message.End.{End}
use Rattle.prolly_link.specs.declared.message.Message.{Message}
use Rattle.prolly_link.specs.declared.message.Message.TheVariants.{Item, Last}
use Rattle.prolly_link.specs.declared.message.Progress.{Progress}
use Rattle.prolly_link.specs.declared.message.Progress.TheVariants.{Open, Ended, Lost}

module _ {T : Type 0} where
  -- items, with no end after them
  abbrev pub open_messages : List T → List (Message T)
  open_messages [] = []
  open_messages (x ∷ xs) = Item x ∷ open_messages xs

  -- items, and the end after them
  abbrev pub closed_messages : List T → End → List (Message T)
  closed_messages xs e = open_messages xs ++ Last e ∷ []

  -- the items that a receiver gave, and the end after them where it has come so far
  abbrev pub given_messages : List T → Progress → List (Message T)
  given_messages xs Open = open_messages xs
  given_messages xs (Ended e) = closed_messages xs e
  given_messages xs Lost = open_messages xs

  -- what was received, with its end, is a prefix of what was sent, with its end
  abbrev pub IsReceivedOf : Receiving T → List (Message T) → Type 0
  IsReceivedOf receiver sent = IsPrefix (given_messages receiver.items receiver.progress) sent

  -- a receiver beside an open sender of these items: what it received begins what was sent, and it
  -- has no end
  pub record IsBesideOpen (receiver : Receiving T) (sent : List T) : Type 0 where
    pub prefix : IsPrefix receiver.items sent
    pub no_end : (e : End) → receiver.progress ≢ Ended e
    pub messages : IsReceivedOf receiver (open_messages sent)

  -- a receiver beside a closed sender: what it received begins what was sent, and an end that it
  -- has is the sender's, after all items
  pub record IsBesideClosed (receiver : Receiving T) (sent : Whole T) : Type 0 where
    pub prefix : IsPrefix receiver.items sent.items
    pub end : (e : End) → receiver.progress ≡ Ended e →
        (e ≡ sent.end) × (receiver.items ≡ sent.items)
    pub messages : IsReceivedOf receiver (closed_messages sent.items sent.end)
