-- Batches of items.
use Rattle.std.specs.Prelude.{List, [], ◌∷◌, ◌++◌}
use Rattle.prolly_link.specs.Views.{Whole}

module _ {T : Type 0} where
  -- the items of the batches, one after another
  abbrev pub items_of : List (List T) → List T
  items_of [] = []
  items_of (b ∷ bs) = b ++ items_of bs

-- a link of batches, as a link of their items
abbrev pub unbatched : {T : Type 0} → Whole (List T) → Whole T
unbatched w = record { link = w.link; items = items_of w.items; end = w.end }
