-- What the mergers of a build give back.
use Rattle.std.specs.Prelude.{◌≡◌, List, [], ◌∷◌, All, map}
use Rattle.prolly_tree.specs.Merge.{Input, raw_merged_part, merged_part}
use Rattle.prolly_entry.specs.Overlay.{AllRising}
use Rattle.prolly_entry.specs.Pair.{Pair}
use Rattle.prolly_entry.specs.Record.{Record}
use Rattle.prolly_link.specs.Identity.{LinkId}
use Rattle.prolly_link.specs.Views.{Receiving, Whole}
use Rattle.prolly_link.specs.Progress.{end_given}
use Rattle.prolly_link.specs.declared.message.End.{End}
use Rattle.prolly_link.specs.Progress.{HasEnded}
use Rattle.prolly_link.specs.declared.fault.RunFault.{RunFault}
use Rattle.prolly_merge.specs.Inputs.{input_of, lists_of, stop_end}
use Rattle.prolly_merge.specs.Merged.{SendsAll}

-- What went over a link, as an input of a merge, seen from the receiver.
abbrev pub received_input : Receiving Record → Input RunFault
received_input r = input_of r.items (end_given r.progress)

-- The same, seen from the sender.
abbrev pub sent_input : Whole Record → Input RunFault
sent_input c = input_of c.items c.end

-- A merger of two sent this, with this end.
abbrev pub MergesTwo : Input RunFault → Input RunFault → List Record → End → Type 0
MergesTwo left right sent end = AllRising (lists_of (left ∷ right ∷ [])) →
    SendsAll [] (raw_merged_part (left ∷ right ∷ [])) (stop_end (left ∷ right ∷ [])) sent end

-- The last merger sent these pairs, with this end.
abbrev pub MergesAll : List (Input RunFault) → List Pair → End → Type 0
MergesAll inputs sent end = AllRising (lists_of inputs) →
    SendsAll [] (merged_part inputs) (stop_end inputs) sent end

-- Both inputs of a merger of two have ended, and what it makes of them was sent, on the links that
-- it was given.
pub record IsMergedTwo (left right : Receiving Record) (link : LinkId)
    (left' right' : Receiving Record) (closed : Whole Record) : Type 0 where
  pub reads_left : left'.link ≡ left.link
  pub reads_right : right'.link ≡ right.link
  pub left_ended : HasEnded left'.progress
  pub right_ended : HasEnded right'.progress
  pub writes : closed.link ≡ link
  pub merges : MergesTwo (received_input left') (received_input right') closed.items closed.end

-- All inputs of the last merger have ended, and the pairs that it makes of them were sent, on the
-- links that it was given.
pub record IsMerged (inputs : List (Receiving Record)) (link : LinkId)
    (inputs' : List (Receiving Record)) (closed : Whole Pair) : Type 0 where
  pub reads : map (λ r. r.link) inputs' ≡ map (λ r. r.link) inputs
  pub have_ended : All (λ r. HasEnded r.progress) inputs'
  pub writes : closed.link ≡ link
  pub merges : MergesAll (map received_input inputs') closed.items closed.end
