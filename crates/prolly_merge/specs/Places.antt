-- How far a merger has come.
use Rattle.std.specs.Prelude.{◌≡◌, List, [], ◌∷◌, ◌++◌, map, ◌⊎◌}
use Rattle.prolly_entry.specs.Record.{Record}
use Rattle.prolly_entry.specs.Overlay.{AllRising}
use Rattle.prolly_tree.specs.Merge.{Input, stop, stop_fault, raw_merged_part}
use Rattle.prolly_link.specs.declared.message.End.{End}
use Rattle.prolly_link.specs.declared.message.End.TheVariants.{Fault}
use Rattle.prolly_link.specs.declared.fault.RunFault.{RunFault}
use Rattle.prolly_link.specs.declared.fault.RunFault.TheVariants.{Memory}
use Rattle.prolly_merge.specs.Inputs.{lists_of}
use Rattle.prolly_merge.specs.Head.{in_hand, Fits, Stops}
use Rattle.prolly_merge.specs.declared.heads.Head.{Head}

-- The place of an input: the records that were received of it, the last of which may still be in
-- hand, and its head.
pub record Place : Type 0 where
  pub received : List Record
  pub head : Head

-- The heads of places.
abbrev pub heads_of : List Place → List Head
heads_of places = map (λ p. p.head) places

-- What the inputs may still give, each behind its head.
abbrev pub AllFit : List Place → List (Input RunFault) → Type 0
AllFit [] [] = Unit {0}
AllFit [] (f ∷ fs) = ⊥
AllFit (p ∷ ps) [] = ⊥
AllFit (p ∷ ps) (f ∷ fs) = Fits p.head f × AllFit ps fs

-- The input that gave these records first.
abbrev pub after : List Record → Input RunFault → Input RunFault
after records more = record { records = records ++ more.records; fault = more.fault }

-- All that the inputs will have given.
abbrev pub wholes : List Place → List (Input RunFault) → List (Input RunFault)
wholes [] fs = []
wholes (p ∷ ps) [] = []
wholes (p ∷ ps) (f ∷ fs) = after p.received f ∷ wholes ps fs

-- What of that was not sent or left out yet.
abbrev pub lefts : List Place → List (Input RunFault) → List (Input RunFault)
lefts [] fs = []
lefts (p ∷ ps) [] = []
lefts (p ∷ ps) (f ∷ fs) = after (in_hand p.head) f ∷ lefts ps fs

-- The merged part of the whole is the records and then the merged part of what is left, and the
-- fault that is named is that of what is left.
pub record Continues (whole : List (Input RunFault)) (records : List Record)
    (left : List (Input RunFault)) : Type 0 where
  pub merged : raw_merged_part whole ≡ records ++ raw_merged_part left
  pub fault : stop_fault (stop whole) ≡ stop_fault (stop left)
  pub rising : AllRising (lists_of left)

-- Whatever the inputs may still give, as long as they rise: the records come first in what is to be
-- sent.
abbrev pub ComeFirst : List Place → List Record → Type 0
ComeFirst places records = (fs : List (Input RunFault)) → AllFit places fs →
    AllRising (lists_of (wholes places fs)) →
    Continues (wholes places fs) records (lefts places fs)

-- A merger halts with an end: the records were all that is to be sent, and the heads say so; or
-- memory was refused, and other records come behind them.
abbrev pub Halts : List Place → List Record → End → Type 0
Halts places records end =
    (ComeFirst places records × Stops (heads_of places) end)
    ⊎ ((end ≡ Fault Memory) × ((more : List Record) × ComeFirst places (records ++ more)))
