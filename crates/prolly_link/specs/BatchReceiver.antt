-- The batch that a receiver has in hand.
use Rattle.std.specs.Prelude.{◌≡◌, ℕ, Bool, true, false, List, [], ◌∷◌, ◌++◌, length}
use Rattle.prolly_link.specs.Fronts.{before_rest}
use Rattle.prolly_link.specs.Views.{Receiving}
use Rattle.prolly_link.specs.Batch.{items_of}
use Rattle.prolly_link.specs.declared.message.Progress.{Progress}
use Rattle.prolly_link.specs.declared.message.Progress.TheVariants.{Open, Ended, Lost}

module _ {T : Type 0} where
  -- a receiver of batches: the items of those that came, without those that are left of the last
  -- one
  abbrev pub given_of : Receiving (List T) → List T → Receiving T
  given_of r left = record {
    link = r.link;
    items = before_rest (items_of r.items) left;
    progress = r.progress;
  }

  -- an end or Lost is given only where nothing is left in hand
  abbrev pub empty_after : Progress → List T → Bool
  empty_after Open xs = true
  empty_after (Ended e) [] = true
  empty_after (Ended e) (x ∷ xs) = false
  empty_after Lost [] = true
  empty_after Lost (x ∷ xs) = false

  -- `left` is what is left of the batch that came last, and `count` how much that is
  pub record IsInHand (r : Receiving (List T)) (left : List T) (count : ℕ) : Type 0 where
    pub counted_is : count ≡ length left
    pub empty_is : empty_after r.progress left ≡ true
    pub ends_is : items_of r.items ≡ before_rest (items_of r.items) left ++ left
