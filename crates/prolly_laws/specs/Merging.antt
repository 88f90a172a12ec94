-- Overlays of neighbours, and merging inputs that end with a fault.
use Rattle.std.proofs.Common.{◌≤◌, List, [], ◌∷◌, ◌++◌, length, map}
use Rattle.std.specs.List.{flat_map}
use Rattle.prolly_entry.specs.Overlay.{raw_overlay, AllRising, NeighboursOverlayFirst}
use Rattle.prolly_entry.specs.Record.{Record}
use Rattle.prolly_tree.specs.CutShort.{CutBehindStop, AreFrontsOf, FrontsMergeToFront}
use Rattle.prolly_tree.specs.Merge.{Input, merged_part, NeighboursMergeFirst}
use Rattle.prolly_tree.specs.MergeSteps.{MergeGoesOn}
use Rattle.prolly_tree.specs.MergedParts.{MergedPartRises, OverlayIsSmall}
use Rattle.prolly_tree.proofs.merging.CutShort as cut_short
use Rattle.prolly_tree.proofs.merging.Fronts as fronts
use Rattle.prolly_tree.proofs.merging.Joins as joins
use Rattle.prolly_tree.proofs.merging.MergedParts as sizes
use Rattle.prolly_tree.proofs.merging.MergeSteps as steps

-- Two neighbours may be merged first.
pub merge_joined : {F : Type 0} → NeighboursMergeFirst F
merge_joined = joins.merge_joined

-- A merged part goes on key by key.
pub merged_step : {F : Type 0} → MergeGoesOn F
merged_step = steps.merged_step

-- Two neighbours may be overlaid first.
pub overlay_of_two : NeighboursOverlayFirst
overlay_of_two = joins.overlay_of_two

-- Two neighbours among rising lists rise.
pub two_of_all : (before after : List (List Record)) (a b : List Record) →
    AllRising (before ++ a ∷ b ∷ after) → AllRising (a ∷ b ∷ [])
two_of_all = joins.two_of_all

-- Rising lists rise with two neighbours overlaid.
pub rising_two_as_one : (before after : List (List Record)) (a b : List Record) →
    AllRising (before ++ a ∷ b ∷ after) → AllRising (before ++ raw_overlay (a ∷ b ∷ []) ∷ after)
rising_two_as_one = joins.rising_two_as_one

-- What was sent of rising lists rises.
pub all_rising : {F : Type 0} (lists : List (List Record)) (sent : List (Input F)) →
    AllRising lists → AreFrontsOf lists sent → AllRising (map (λ i. i.records) sent)
all_rising = fronts.all_rising

-- What was sent of lists is merged to what may be sent of their overlay.
pub fronts_merge : (F : Type 0) → FrontsMergeToFront F
fronts_merge = fronts.fronts_merge

-- Inputs cut short behind their stop have the same stop, and the same merged part.
pub cut_behind_stop : (F : Type 0) → CutBehindStop F
cut_behind_stop = cut_short.cut_behind_stop

-- A merged part rises, whatever the inputs.
pub merged_part_rises : (F : Type 0) → MergedPartRises F
merged_part_rises = sizes.merged_part_rises

-- A merged part has at most as many pairs as its inputs have records.
pub merged_part_is_small : (F : Type 0) (inputs : List (Input F)) → length (merged_part inputs)
    ≤ length (flat_map (λ records. records) (map (λ i. i.records) inputs))
merged_part_is_small = sizes.merged_part_is_small

-- An overlay has at most as many pairs as its lists have records.
pub overlay_is_small : OverlayIsSmall
overlay_is_small = sizes.overlay_is_small
