-- What a merger sent.
use Rattle.std.specs.Prelude.{◌≡◌, ℕ, List, ◌++◌, ◌⊎◌, length, min}
use Rattle.prolly_entry.specs.Prefix.{IsPrefix}
use Rattle.prolly_link.specs.declared.message.End.{End}
use Rattle.prolly_link.specs.declared.message.End.TheVariants.{Fault}
use Rattle.prolly_link.specs.declared.fault.RunFault.TheVariants.{Memory}

-- After `before`, all of the items were sent, and then the end; or memory was refused, and a prefix
-- of them was sent.
abbrev pub SendsAll : {T : Type 0} → List T → List T → End → List T → End → Type 0
SendsAll {T} before items end all_sent end_sent =
    ((all_sent ≡ before ++ items) × (end_sent ≡ end))
    ⊎ ((end_sent ≡ Fault Memory) × ((xs : List T) × IsPrefix xs items × (all_sent ≡ before ++ xs)))

-- This many items were sent after `before`, or more than the greatest number that a count has.
abbrev pub Counts : {T : Type 0} → List T → List T → ℕ → Type 0
Counts {T} before all_sent count = (xs : List T) × (all_sent ≡ before ++ xs) ×
    (count ≡ min (length xs) 0xFFFF_FFFF_FFFF_FFFF)
