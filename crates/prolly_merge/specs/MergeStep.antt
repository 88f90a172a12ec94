-- One step of a merger.
use Rattle.std.specs.Prelude.{◌≡◌, ℕ, List, map, Some}
use Rattle.std.specs.List.{AllByRecursion}
use Rattle.prolly_entry.specs.Record.{Record}
use Rattle.prolly_entry.specs.Overlay.{last_change_of}
use Rattle.prolly_link.specs.Identity.{LinkId}
use Rattle.prolly_link.specs.declared.message.Progress.{Progress}
use Rattle.prolly_merge.specs.Each.{Each}
use Rattle.prolly_merge.specs.Head.{in_hand, IsHeld, Allows, Moves, Stops}
use Rattle.prolly_merge.specs.Peeked.{heads_in}
use Rattle.prolly_merge.specs.declared.heads.Head.{Head}
use Rattle.prolly_merge.specs.declared.heads.Peeked.{Peeked}
use Rattle.prolly_merge.specs.declared.heads.MergeStep.{MergeStep}
use Rattle.prolly_merge.specs.declared.heads.MergeStep.TheVariants.{Send, Stop}

-- The records of heads, a list for each.
abbrev pub hands_of : List Head → List (List Record)
hands_of heads = map in_hand heads

module _ {I : Type 0} (link : I → LinkId) (progress : I → Progress) (Follows : I → I → Type 0)
    (received : I → I → List Record) where
  -- Where the record of a key is sent, an input that has the key gives its next head, and any other
  -- one stays.
  pub record MovesOn (key : List ℕ) (old new : Peeked I) : Type 0 where
    pub link_is : link new.input ≡ link old.input
    pub follows : Follows old.input new.input
    pub held : IsHeld old.head (progress old.input) → IsHeld new.head (progress new.input)
    pub moves : Moves key old.head (received old.input new.input) new.head

  -- The last record of the least key among the heads is sent, and the inputs that have the key move
  -- on; or the merger stops.
  abbrev pub IsStep : List (Peeked I) → MergeStep → List (Peeked I) → Type 0
  IsStep os (Send r) ns =
      AllByRecursion (Allows r.key) (heads_in os) ×
      (last_change_of (hands_of (heads_in os)) r.key ≡ Some r.value) ×
      Each (MovesOn r.key) os ns
  IsStep os (Stop end) ns = Stops (heads_in os) end × (ns ≡ os)
