-- The messages of a link: items, and then at most one end.
use Rattle.std.specs.Prelude.{Bool, true, false, List, [], ◌∷◌}
use Rattle.prolly_link.specs.Identity.{LinkId}
use Rattle.prolly_link.specs.Views.{Sending, Whole}
use Rattle.prolly_link.specs.declared.message.End.{End}
use Rattle.prolly_link.specs.declared.message.End.TheVariants.{Clean}
use Rattle.prolly_link.specs.declared.message.Message.{Message}
use Rattle.prolly_link.specs.declared.message.Message.TheVariants.{Item, Last}

module _ {T : Type 0} where
  -- the items among the messages
  abbrev pub items_in : List (Message T) → List T
  items_in [] = []
  items_in (Item x ∷ ms) = x ∷ items_in ms
  items_in (Last e ∷ ms) = items_in ms

  -- no message is an end
  abbrev pub is_open : List (Message T) → Bool
  is_open [] = true
  is_open (Item x ∷ ms) = is_open ms
  is_open (Last e ∷ ms) = false

  -- the last message is an end, and no other one
  abbrev pub is_closed : List (Message T) → Bool
  is_closed [] = false
  is_closed (Item x ∷ ms) = is_closed ms
  is_closed (Last e ∷ []) = true
  is_closed (Last e ∷ (m ∷ ms)) = false

  -- the first end among the messages
  abbrev pub end_in : List (Message T) → End
  end_in [] = Clean
  end_in (Item x ∷ ms) = end_in ms
  end_in (Last e ∷ ms) = e

  -- what a contract sees of an end whose messages have no end
  abbrev pub sending_of : LinkId → List (Message T) → Sending T
  sending_of l ms = record { link = l; items = items_in ms }

  -- what a contract sees of an end whose last message is an end
  abbrev pub whole_of : LinkId → List (Message T) → Whole T
  whole_of l ms = record { link = l; items = items_in ms; end = end_in ms }
