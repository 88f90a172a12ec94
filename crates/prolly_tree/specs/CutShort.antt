-- Inputs of which some were cut short, because a worker on their way was refused memory. (This
-- project's rules.)
use Rattle.std.specs.Prelude.{◌≡◌, ◌≢◌, ◌⊎◌, List, [], ◌∷◌, map, Some, None}
use Rattle.prolly_tree.specs.Merge.{Input, Stop, stop, stop_fault, raw_merged_part}
use Rattle.prolly_entry.specs.Overlay.{raw_overlay, AllRising}
use Rattle.prolly_entry.specs.Prefix.{IsPrefix}
use Rattle.prolly_entry.specs.Record.{Record}

-- What was sent of an input: the whole of it, or its first records, and then the fault of a worker
-- that was refused.
abbrev pub IsSentOf : {Fault : Type 0} → Fault → Input Fault → Input Fault → Type 0
IsSentOf refused input sent = (sent ≡ input) ⊎
    ((sent.fault ≡ Some refused) × IsPrefix sent.records input.records)

-- Each input was sent so, in its place.
abbrev pub AreSentOf : {Fault : Type 0} → Fault → List (Input Fault) → List (Input Fault) → Type 0
AreSentOf refused [] [] = Unit {0}
AreSentOf refused (i ∷ inputs) (j ∷ sent) = IsSentOf refused i j × AreSentOf refused inputs sent
AreSentOf refused _ _ = ⊥

-- Law: where the stop of what was sent names another fault, it is the stop of the inputs, and the
-- merged part is theirs.
abbrev pub CutBehindStop : Type 0 → Type 0
CutBehindStop Fault = (refused : Fault) (inputs sent : List (Input Fault)) (s : Stop Fault) →
    AllRising (map (λ i. i.records) inputs) →
    AreSentOf refused inputs sent → stop sent ≡ Some s → s.fault ≢ refused →
    (stop inputs ≡ Some s) × (raw_merged_part inputs ≡ raw_merged_part sent)

-- ---- Seen from whole lists

-- What was sent of a list of records: its first ones, and at a clean end all of them.
pub record IsFrontOf {Fault : Type 0} (whole : List Record) (sent : Input Fault) : Type 0 where
  pub first : IsPrefix sent.records whole
  pub all : sent.fault ≡ None → sent.records ≡ whole

-- Each input is a front of its list, in its place.
abbrev pub AreFrontsOf : {Fault : Type 0} → List (List Record) → List (Input Fault) → Type 0
AreFrontsOf [] [] = Unit {0}
AreFrontsOf (l ∷ lists) (j ∷ sent) = IsFrontOf l j × AreFrontsOf lists sent
AreFrontsOf _ _ = ⊥

-- Law: what was sent of lists is merged to what may be sent of their raw overlay.
abbrev pub FrontsMergeToFront : Type 0 → Type 0
FrontsMergeToFront Fault = (lists : List (List Record)) (sent : List (Input Fault)) →
    AllRising lists → AreFrontsOf lists sent →
    IsFrontOf (raw_overlay lists) (record {
      records = raw_merged_part sent;
      fault = stop_fault (stop sent);
    })
