-- What the stage of an old tree's leaves sends.
use Rattle.std.specs.Prelude.{◌≡◌, Bool, true, false, List, [], ◌++◌}
use Rattle.std.specs.Prelude.{Result, Ok, Err}
use Rattle.prolly_entry.specs.declared.version.Version.{Version}
use Rattle.prolly_entry.specs.Cut.{Cut}
use Rattle.prolly_entry.specs.Overlay.{AllRising}
use Rattle.prolly_entry.specs.Pair.{Pair}
use Rattle.prolly_entry.specs.Record.{Record}
use Rattle.prolly_tree.specs.Chunk.{Chunk}
use Rattle.prolly_tree.specs.Events.{clean, leaf_events}
use Rattle.prolly_tree.specs.Merge.{Input, merged_part}
use Rattle.prolly_link.specs.Progress.{HasEnded, end_given}
use Rattle.prolly_link.specs.declared.fault.RunFault.{RunFault}
use Rattle.prolly_link.specs.declared.fault.RunFault.TheVariants.{Memory, Read}
use Rattle.prolly_link.specs.declared.message.End.{End}
use Rattle.prolly_link.specs.declared.message.End.TheVariants.{Clean, Fault}
use Rattle.prolly_link.specs.declared.message.Progress.{Progress}
use Rattle.prolly_merge.specs.Inputs.{fault_in, input_of, lists_of, stop_end}
use Rattle.prolly_merge.specs.Places.{Place}
use Rattle.prolly_stage.specs.Sends.{Sends, SendsPrefix, closing_of}
use Rattle.prolly_apply.specs.Cutting.{AreCut, AreSeen, RestAreCut}
use Rattle.prolly_apply.specs.Taking.{May, SentFirst, StopsBy, Whatever, both, pairs_of}
use Rattle.prolly_apply.specs.declared.stage.Outcome.{Outcome}
use Rattle.prolly_apply.specs.declared.stage.Outcome.TheVariants as outcomes
use Rattle.prolly_apply.specs.declared.stop.Stop.{Stop}
use Rattle.prolly_apply.specs.declared.stop.Stop.TheVariants as stops

-- The fault of a run in which the old tree is at fault. No record file has this number.
abbrev pub old_tree_fault : RunFault
old_tree_fault = Read 0xFFFF_FFFF

-- The end that is sent where the stage stops.
abbrev pub stop_ends : Stop → End
stop_ends stops.Memory = Fault Memory
stop_ends (stops.Fault fault) = Fault fault

-- What may be left of an old tree that has come so far: once its end was given, nothing but that.
abbrev pub MayBe : Progress → May
MayBe progress m fault = HasEnded progress → (m ≡ []) × (fault ≡ fault_in (end_given progress))

-- All was sent: the leaves of the merged part, as at a clean end, and no fault is named.
pub record SentClean (cut : Cut) (before : List Chunk) (gone : List Pair) (place : Place) (may : May)
    (sent : List Chunk) : Type 0 where
  pub pairs : List Pair
  pub events : (version : Version) → sent ≡ before ++ leaf_events cut version clean pairs
  pub all : Whatever gone place may (λ m fault more all. (merged_part all ≡ pairs) ×
      (stop_end all ≡ Clean))

-- Both inputs came to a clean end, and all was sent. Of these leaves so much was seen.
pub record EndsClean (cut : Cut) (leaves : List (List Pair)) (progress : Progress) (place : Place)
    (before sent : List Chunk) : Type 0 where
  pub sends : RestAreCut cut leaves → SentClean cut before (pairs_of leaves) place (MayBe progress)
      sent
  pub seen : AreSeen cut leaves
  pub ended : HasEnded progress
  pub clean_end : end_given progress ≡ Clean

-- The leaves are refused: they are not cut so, whatever leaves come behind them. What was sent comes
-- first.
pub record RefusesAt (cut : Cut) (leaves : List (List Pair)) (progress : Progress) (place : Place)
    (before sent : List Chunk) : Type 0 where
  pub first : RestAreCut cut leaves → SentFirst cut before (pairs_of leaves) place (MayBe progress)
      sent
  pub wrong : (more : List (List Pair)) → AreCut cut (leaves ++ more) → ⊥

-- How a run came to its end.
abbrev pub EndsBy : Cut → List (List Pair) → Progress → Place → List Chunk → Outcome →
    List Chunk → Type 0
EndsBy cut leaves progress place before outcomes.Clean sent =
    EndsClean cut leaves progress place before sent
EndsBy cut leaves progress place before outcomes.Refused sent =
    RefusesAt cut leaves progress place before sent

-- What is sent at the end of a run, and whether the old tree was refused.
abbrev pub IsVerdict : Result Outcome Stop → End → Bool → Type 0
IsVerdict (Ok outcomes.Clean) end refused = (end ≡ Clean) × (refused ≡ false)
IsVerdict (Ok outcomes.Refused) end refused = (end ≡ Fault old_tree_fault) × (refused ≡ true)
IsVerdict (Err stop) end refused = (end ≡ stop_ends stop) × (refused ≡ false)

-- The stage stopped.
abbrev pub StopsAt : Cut → List (List Pair) → Progress → Place → List Chunk → Stop → List Chunk →
    Type 0
StopsAt cut leaves progress place before stop sent = RestAreCut cut leaves →
    StopsBy cut before (pairs_of leaves) place (MayBe progress) stop sent

-- The inputs that the stage was given, in the end: the pairs of these leaves with this end, and the
-- changes with theirs.
abbrev pub given : List (List Pair) → End → List Record → End → List (Input RunFault)
given leaves end changes last = both (pairs_of leaves) (fault_in end) (input_of changes last)

-- Of inputs that rise, where the leaves that are not tested have no boundary before their last pair,
-- it is so.
abbrev pub Lawfully : Cut → List (List Pair) → List (Input RunFault) → Type 0 → Type 0
Lawfully cut leaves inputs So = AllRising (lists_of inputs) → RestAreCut cut leaves → So

-- The leaves of the merged part were sent, and the end that names its stop; or memory was refused,
-- and a prefix was sent.
abbrev pub SendsApplied : Cut → Version → List (List Pair) → List (Input RunFault) → List Chunk →
    List Chunk → End → Type 0
SendsApplied cut version leaves inputs before sent last = Lawfully cut leaves inputs
    (Sends (leaf_events cut version) (merged_part inputs) (stop_end inputs) before sent last)

-- The old tree was refused: its leaves are not cut so. The end says it, and a prefix was sent.
pub record IsRefused (cut : Cut) (leaves : List (List Pair)) (inputs : List (Input RunFault))
    (before sent : List Chunk) (last : End) : Type 0 where
  pub wrong : AreCut cut leaves → ⊥
  pub end : last ≡ Fault old_tree_fault
  pub first : (version : Version) → Lawfully cut leaves inputs (SendsPrefix (leaf_events cut version
      (closing_of (stop_end inputs)) (merged_part inputs)) before sent)

-- What was seen, where a run came to a clean end.
abbrev pub SeenAtEnd : Cut → List (List Pair) → End → Type 0
SeenAtEnd cut leaves last = last ≡ Clean → AreSeen cut leaves

-- A clean end is sent only where the old tree came to one.
abbrev pub IsCleanBehind : End → End → Type 0
IsCleanBehind end last = last ≡ Clean → end ≡ Clean
