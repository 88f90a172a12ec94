-- How a merged part goes on, one key after another. (This project's rules.)
use Rattle.std.specs.Prelude.{◌≡◌, ℕ, List, [], ◌∷◌, map, Option, Some, None}
use Rattle.std.specs.List.{AllByRecursion}
use Rattle.prolly_entry.specs.Overlay.{AllRising, NotBelow, last_change_of, rest_after}
use Rattle.prolly_tree.specs.Merge.{Input, raw_merged_part, stop, stop_fault}

-- An input that has no records has no fault either.
abbrev pub SaysOn : {Fault : Type 0} → Input Fault → Type 0
SaysOn input = input.records ≡ [] → input.fault ≡ None

-- What is left of inputs behind a key, where the key is the first of some of them.
abbrev pub rests : {Fault : Type 0} → List ℕ → List (Input Fault) → List (Input Fault)
rests key inputs = map (λ i. record { records = rest_after key i.records; fault = i.fault }) inputs

-- Law: where no input has a key below this one, nor ends with a fault before it, the merged part
-- begins with the last record of the key, and goes on as that of what is left. The fault that is
-- named is the same.
abbrev pub MergeGoesOn : Type 0 → Type 0
MergeGoesOn Fault = (inputs : List (Input Fault)) (key : List ℕ) (value : Option (List ℕ)) →
    AllRising (map (λ i. i.records) inputs) →
    AllByRecursion (NotBelow key) (map (λ i. i.records) inputs) → AllByRecursion SaysOn inputs →
    last_change_of (map (λ i. i.records) inputs) key ≡ Some value →
    (raw_merged_part inputs ≡ record { key = key; value = value } ∷ raw_merged_part
    (rests key inputs))
    × (stop_fault (stop inputs) ≡ stop_fault (stop (rests key inputs)))
