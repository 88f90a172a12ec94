-- Inputs beside their heads, and how they go on.
use Rattle.std.specs.Prelude.{◌≡◌, List, [], ◌∷◌, ◌++◌, map}
use Rattle.std.specs.List.{AllByRecursion}
use Rattle.prolly_entry.specs.Record.{Record}
use Rattle.prolly_link.specs.Identity.{LinkId}
use Rattle.prolly_link.specs.Progress.{end_given}
use Rattle.prolly_link.specs.declared.message.Progress.{Progress}
use Rattle.prolly_merge.specs.Inputs.{input_of, Ends}
use Rattle.prolly_merge.specs.Head.{in_hand, IsHeld, Fits}
use Rattle.prolly_merge.specs.Places.{Place}
use Rattle.prolly_merge.specs.declared.heads.Head.{Head}
use Rattle.prolly_merge.specs.declared.heads.Peeked.{Peeked}

module _ {I : Type 0} where
  -- The inputs, each beside its head.
  abbrev pub peeked_of : List I → List Head → List (Peeked I)
  peeked_of [] hs = []
  peeked_of (n ∷ ns) [] = []
  peeked_of (n ∷ ns) (h ∷ hs) = record { input = n; head = h } ∷ peeked_of ns hs

  -- Their heads.
  abbrev pub heads_in : List (Peeked I) → List Head
  heads_in peeked = map (λ p. p.head) peeked

module _ {I : Type 0} (progress : I → Progress) where
  -- Each head that is an end is the end that its input gave.
  abbrev pub AllHeld : List (Peeked I) → Type 0
  AllHeld peeked = AllByRecursion (λ p. IsHeld p.head (progress p.input)) peeked

module _ {I : Type 0} (link : I → LinkId) (progress : I → Progress) (Follows : I → I → Type 0) where
  -- The new value is the same end of the same link, with a head that it gave.
  pub record Advances (old new : Peeked I) : Type 0 where
    pub link_is : link new.input ≡ link old.input
    pub follows : Follows old.input new.input
    pub held : IsHeld new.head (progress new.input)

module _ {I : Type 0} (received : I → I → List Record) where
  -- The place of an input, counted from its old head on.
  abbrev pub place_after : Peeked I → Peeked I → Place
  place_after old new = record {
    received = in_hand old.head ++ received old.input new.input;
    head = new.head;
  }

  -- The places of inputs.
  abbrev pub places_after : List (Peeked I) → List (Peeked I) → List Place
  places_after [] ns = []
  places_after (o ∷ os) [] = []
  places_after (o ∷ os) (n ∷ ns) = place_after o n ∷ places_after os ns

module _ {I : Type 0} (link : I → LinkId) (progress : I → Progress) (Follows : I → I → Type 0)
    (received : I → I → List Record) where
  -- The input was received for the first time, and what it gave is its head.
  pub record Opens (old : I) (new : Peeked I) : Type 0 where
    pub link_is : link new.input ≡ link old
    pub follows : Follows old new.input
    pub received_is : received old new.input ≡ in_hand new.head
    pub held : IsHeld new.head (progress new.input)

  -- The input was received to its end: to no more than that, where its head was one.
  pub record Finishes (old : Peeked I) (new : I) : Type 0 where
    pub ends : Ends link progress Follows old.input new
    pub fits : Fits old.head (input_of (received old.input new) (end_given (progress new)))
