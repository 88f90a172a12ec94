-- What a receiver gives, and how far it has come by that.
use Rattle.std.specs.Prelude.{◌≡◌, List, [], ◌∷◌}
use Rattle.prolly_link.specs.declared.message.End.{End}
use Rattle.prolly_link.specs.declared.message.End.TheVariants.{Clean, Fault}
use Rattle.prolly_link.specs.declared.fault.RunFault.TheVariants.{Lost as lost_fault}
use Rattle.prolly_link.specs.declared.message.Next.{Next}
use Rattle.prolly_link.specs.declared.message.Next.TheVariants.{Item as next_item, End as next_end}
use Rattle.prolly_link.specs.declared.message.Next.TheVariants.{Lost as next_lost}
use Rattle.prolly_link.specs.declared.message.Progress.{Progress}
use Rattle.prolly_link.specs.declared.message.Progress.TheVariants.{Open, Ended, Lost}

module _ {T : Type 0} where
  -- the items that a receiver gave: one or none
  abbrev pub given_items : Next T → List T
  given_items (next_item x) = x ∷ []
  given_items (next_end e) = []
  given_items next_lost = []

  -- how far a receiver has come once it gave this
  abbrev pub progress_after : Next T → Progress
  progress_after (next_item x) = Open
  progress_after (next_end e) = Ended e
  progress_after next_lost = Lost

  -- a receiver that gave an end or Lost gives the same again
  abbrev pub GivesAgain : Progress → Next T → Type 0
  GivesAgain Open given = Unit {0}
  GivesAgain (Ended e) given = given ≡ next_end e
  GivesAgain Lost given = given ≡ next_lost

-- it gave its end, or Lost
abbrev pub HasEnded : Progress → Type 0
HasEnded Open = ⊥
HasEnded (Ended e) = Unit {0}
HasEnded Lost = Unit {0}

-- the end that a receiver gave. A lost one counts as ended by a fault of its own
abbrev pub end_given : Progress → End
end_given Open = Clean
end_given (Ended e) = e
end_given Lost = Fault lost_fault
