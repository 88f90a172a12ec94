-- How changes reach the stage of an old tree's leaves.
use Rattle.std.specs.Prelude.{◌≡◌, ◌≤◌, ℕ, List, [], ◌∷◌, length, map, Option, Some, None, IfSome}
use Rattle.prolly_entry.specs.Record.{Record}
use Rattle.prolly_tree.specs.Merge.{Input}
use Rattle.prolly_link.specs.Identity.{LinkId}
use Rattle.prolly_link.specs.Views.{Batching, Receiving, Whole}
use Rattle.prolly_link.specs.declared.message.End.TheVariants.{Clean}
use Rattle.prolly_link.specs.declared.fault.RunFault.{RunFault}
use Rattle.prolly_build.specs.Mergers.{sent_input}

-- The input of the changes is fed by the first of these outputs; or there are no files, and its
-- sender sent nothing and closed clean.
pub record AreChangesPaired (files : ℕ) (outs : List (Batching Record)) (input : Receiving Record)
    (idle : Option (Whole Record)) : Type 0 where
  pub few : length outs ≤ 1
  pub fed : idle ≡ None → (rest : List LinkId) × (map (λ o. o.link) outs ≡ input.link ∷ rest)
  pub none : IfSome idle (λ sender. (files ≡ 0) × (sender.link ≡ input.link) ×
      (sender.items ≡ []) × (sender.end ≡ Clean))

-- The senders of the changes: those of the feed, or the idle one.
abbrev pub senders_of : List (Whole Record) → Option (Whole Record) → List (Whole Record)
senders_of closed None = closed
senders_of closed (Some sender) = sender ∷ []

-- The first of them, if there is one.
abbrev pub IsFirstOf : List (Whole Record) → Option (Whole Record) → Type 0
IsFirstOf senders None = senders ≡ []
IsFirstOf senders (Some sender) = (rest : List (Whole Record)) × (senders ≡ sender ∷ rest)

-- The first of them is the sender over this link.
abbrev pub IsChangesLink : List (Whole Record) → LinkId → Type 0
IsChangesLink senders link = (rest : List LinkId) × (map (λ c. c.link) senders ≡ link ∷ rest)

-- What went over it.
abbrev pub first_sent : List (Whole Record) → Input RunFault
first_sent [] = record { records = []; fault = None }
first_sent (sender ∷ senders) = sent_input sender
