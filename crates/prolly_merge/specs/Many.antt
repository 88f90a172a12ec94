-- How a merger of many goes on, and what it knows of keys that several inputs have.
use Rattle.std.specs.Prelude.{◌≡◌, ℕ, List, [], ◌∷◌, ◌++◌, Option, Some, None, if◌then◌else◌}
use Rattle.std.specs.List.{flat_map, AllByRecursion}
use Rattle.prolly_entry.specs.Overlay.{or_else, AllRising}
use Rattle.prolly_entry.specs.Record.{Record}
use Rattle.prolly_link.specs.Identity.{LinkId}
use Rattle.prolly_link.specs.declared.message.End.{End}
use Rattle.prolly_link.specs.declared.message.End.TheVariants.{Clean, Fault}
use Rattle.prolly_link.specs.declared.message.Progress.{Progress}
use Rattle.prolly_link.specs.declared.fault.RunFault.{RunFault}
use Rattle.prolly_link.specs.declared.fault.RunFault.TheVariants.{Lost}
use Rattle.prolly_tree.specs.Merge.{Input, raw_merged_part}
use Rattle.prolly_merge.specs.Head.{in_hand, record_in, has_key}
use Rattle.prolly_merge.specs.Inputs.{lists_of, stop_end}
use Rattle.prolly_merge.specs.MergeStep.{IsStep}
use Rattle.prolly_merge.specs.Merged.{SendsAll}
use Rattle.prolly_merge.specs.Peeked.{heads_in}
use Rattle.prolly_merge.specs.Places.{Place, AllFit, wholes, lefts, ComeFirst, Halts}
use Rattle.prolly_merge.specs.Unique.{all_in, records_with, IsAlone, IsDoubled, SendsApart}
use Rattle.prolly_merge.specs.declared.heads.Head.{Head}
use Rattle.prolly_merge.specs.declared.heads.MergeStep.TheVariants.{Send as SendOne, Stop as StopNow}
use Rattle.prolly_merge.specs.declared.heads.Peeked.{Peeked}
use Rattle.prolly_merge.specs.declared.round.ManyStep.{ManyStep}
use Rattle.prolly_merge.specs.declared.round.ManyStep.TheVariants.{Send, Stop, Refuse}
use Rattle.prolly_merge.specs.declared.round.SharedKey.{SharedKey}
use Rattle.prolly_merge.specs.declared.round.SharedKey.TheVariants.{LastWins, Refused}
use Rattle.prolly_merge.specs.declared.round.Taken.{Taken}
use Rattle.prolly_merge.specs.declared.unique.Doubled.{Doubled}

-- The last record of the key among the heads.
abbrev pub last_with : List ℕ → List Head → Option Record
last_with key [] = None
last_with key (h ∷ heads) =
    or_else (last_with key heads) (if has_key key h then record_in h else None)

-- The records of the heads that have the key.
abbrev pub hands_with : List ℕ → List Head → List Record
hands_with key heads = records_with key (flat_map in_hand heads)

-- The record is the last one of its key among the heads, and the other one, if there is one, stands
-- right before it.
abbrev pub IsLeftOut : List Head → Record → Option Record → Type 0
IsLeftOut heads r None = hands_with r.key heads ≡ r ∷ []
IsLeftOut heads r (Some other) =
    (more : List Record) × (hands_with r.key heads ≡ more ++ other ∷ r ∷ [])

-- A record that was taken is sent, unless its key is shared and that is refused.
abbrev pub IsStepWith : Taken → SharedKey → ManyStep → Type 0
IsStepWith taken shared (Send r) =
    (r ≡ taken.record) × (shared ≡ Refused → taken.left_out ≡ None)
IsStepWith taken shared (Refuse d) =
    (shared ≡ Refused) × (d.second ≡ taken.record) × (taken.left_out ≡ Some d.first)
IsStepWith taken shared (Stop end) = ⊥

-- The merger makes a step; where shared keys are refused, one that no other head has. Or it has
-- taken a record whose key is shared.
abbrev pub IsManyStep : {I : Type 0} → (I → LinkId) → (I → Progress) → (I → I → Type 0) →
    (I → I → List Record) → SharedKey → List (Peeked I) → ManyStep → List (Peeked I) → Type 0
IsManyStep link progress Follows received shared os (Send r) ns =
    IsStep link progress Follows received os (SendOne r) ns
    × (shared ≡ Refused → IsLeftOut (heads_in os) r None)
IsManyStep link progress Follows received shared os (Refuse d) ns =
    (shared ≡ Refused) × IsStep link progress Follows received os (SendOne d.second) ns
    × IsLeftOut (heads_in os) d.second (Some d.first)
IsManyStep link progress Follows received shared os (Stop end) ns =
    IsStep link progress Follows received os (StopNow end) ns

-- Whatever the inputs may still give, as long as they rise: of each key, all records of the inputs
-- are those that were sent, and then those that are left.
abbrev pub NoneLeftOut : List Place → List Record → Type 0
NoneLeftOut places sent = (fs : List (Input RunFault)) → AllFit places fs →
    AllRising (lists_of (wholes places fs)) → (key : List ℕ) →
    records_with key (all_in (lists_of (wholes places fs))) ≡
    records_with key sent ++ records_with key (all_in (lists_of (lefts places fs)))

-- Whatever the inputs may still give, as long as they rise: each record that was sent is the only
-- one of its key.
abbrev pub AllAlone : List Place → List Record → Type 0
AllAlone places sent = (fs : List (Input RunFault)) → AllFit places fs →
    AllRising (lists_of (wholes places fs)) →
    AllByRecursion (IsAlone (lists_of (wholes places fs))) sent

-- Whatever the inputs may still give, as long as they rise: they have these two with one key.
abbrev pub Doubles : List Place → Doubled → Type 0
Doubles places doubled = (fs : List (Input RunFault)) → AllFit places fs →
    AllRising (lists_of (wholes places fs)) → IsDoubled (lists_of (wholes places fs)) doubled

-- A merger of many halts as any merger; where shared keys are refused, with none left out at a
-- clean end, and with no such key sent. Or it halts before the first record whose key is shared.
abbrev pub HaltsApart : SharedKey → List Place → List Record → End → Option Doubled → Type 0
HaltsApart shared places sent end None = Halts places sent end
    × (shared ≡ Refused → end ≡ Clean → NoneLeftOut places sent)
    × (shared ≡ Refused → AllAlone places sent)
HaltsApart shared places sent end (Some d) = (shared ≡ Refused) × (end ≡ Fault Lost)
    × ComeFirst places (sent ++ d.second ∷ []) × Doubles places d × AllAlone places sent

-- What a merger of many sent: all, where the last record of a shared key wins; and as it does where
-- such a key is refused.
abbrev pub SendsMany : {T : Type 0} → (List Record → List T) → SharedKey → List T →
    List (Input RunFault) → Option Doubled → List T → End → Type 0
SendsMany items LastWins before inputs doubled all_sent end_sent = (doubled ≡ None)
    × SendsAll before (items (raw_merged_part inputs)) (stop_end inputs) all_sent end_sent
SendsMany items Refused before inputs doubled all_sent end_sent =
    SendsApart items before inputs doubled all_sent end_sent
