-- Keys that stand in one of several lists only, and keys that stand in two.
use Rattle.std.specs.Prelude.{◌≡◌, ℕ, List, [], ◌∷◌, ◌++◌, ◌⊎◌, Option, Some, None}
use Rattle.std.specs.List.{filter, flat_map, AllByRecursion}
use Rattle.std.specs.Ordering.{is_eq}
use Rattle.prolly_entry.specs.Keys.{key_order}
use Rattle.prolly_entry.specs.Overlay.{last_change_of}
use Rattle.prolly_entry.specs.Record.{Record}
use Rattle.prolly_link.specs.declared.message.End.{End}
use Rattle.prolly_link.specs.declared.message.End.TheVariants.{Clean, Fault}
use Rattle.prolly_link.specs.declared.fault.RunFault.{RunFault}
use Rattle.prolly_link.specs.declared.fault.RunFault.TheVariants.{Lost}
use Rattle.prolly_tree.specs.Chunk.{IsIn}
use Rattle.prolly_tree.specs.Merge.{Input, raw_merged_part}
use Rattle.prolly_merge.specs.Inputs.{lists_of, stop_end}
use Rattle.prolly_merge.specs.Merged.{SendsAll}
use Rattle.prolly_merge.specs.declared.unique.Doubled.{Doubled}

-- The records of lists, list after list.
abbrev pub all_in : List (List Record) → List Record
all_in lists = flat_map (λ records. records) lists

-- The records that have the key, in their order.
abbrev pub records_with : List ℕ → List Record → List Record
records_with key records = filter (λ r. is_eq (key_order r.key key)) records

-- The record is the only one of its key in all of the lists.
abbrev pub IsAlone : List (List Record) → Record → Type 0
IsAlone lists r = records_with r.key (all_in lists) ≡ r ∷ []

-- No key stands in two of the lists: of the keys of each, those behind it say nothing.
abbrev pub AreApart : List (List Record) → Type 0
AreApart [] = Unit {0}
AreApart (records ∷ lists) =
    AllByRecursion (λ r. last_change_of lists r.key ≡ None) records × AreApart lists

-- One record stands in one of the lists, and the other one in a list behind it.
abbrev pub StandInOrder : List (List Record) → Record → Record → Type 0
StandInOrder [] first second = ⊥
StandInOrder (records ∷ lists) first second =
    (IsIn first records × IsIn second (all_in lists)) ⊎ StandInOrder lists first second

-- Two of the lists have records with one key: these, in the order of the lists. They are the last
-- two records with that key.
pub record IsDoubled (lists : List (List Record)) (doubled : Doubled) : Type 0 where
  pub same : doubled.first.key ≡ doubled.second.key
  pub order : StandInOrder lists doubled.first doubled.second
  pub last : (before : List Record) × (records_with doubled.second.key (all_in lists) ≡
      before ++ doubled.first ∷ doubled.second ∷ [])

-- After `before`, what `items` makes of records was sent, each of which is the only one of its key
-- in all of the lists.
abbrev pub SendsAlone : {T : Type 0} → (List Record → List T) → List T → List (List Record) →
    List T → Type 0
SendsAlone items before lists all_sent =
    (sent : List Record) × (all_sent ≡ before ++ items sent) × AllByRecursion (IsAlone lists) sent

-- After `before`, what `items` makes of all records before the key that is doubled was sent, and
-- then a fault. Each of them is the only one of its key, so that key is the least one that is
-- doubled.
pub record SendsBefore {T : Type 0} (items : List Record → List T) (before : List T)
    (inputs : List (Input RunFault)) (doubled : Doubled) (all_sent : List T) (end_sent : End) :
    Type 0 where
  pub sent : List Record
  pub rest : List Record
  pub sent_is : all_sent ≡ before ++ items sent
  pub next_is : raw_merged_part inputs ≡ sent ++ doubled.second ∷ rest
  pub apart : AllByRecursion (IsAlone (lists_of inputs)) sent
  pub end_is : end_sent ≡ Fault Lost

-- After `before`, what `items` makes of the raw merged part was sent, or memory was refused. No
-- record was sent whose key stands in two inputs; where the end is clean, no key does. Or the least
-- key that does is told.
abbrev pub SendsApart : {T : Type 0} → (List Record → List T) → List T → List (Input RunFault) →
    Option Doubled → List T → End → Type 0
SendsApart items before inputs None all_sent end_sent =
    SendsAll before (items (raw_merged_part inputs)) (stop_end inputs) all_sent end_sent
    × (end_sent ≡ Clean → AreApart (lists_of inputs))
    × SendsAlone items before (lists_of inputs) all_sent
SendsApart items before inputs (Some doubled) all_sent end_sent =
    IsDoubled (lists_of inputs) doubled
    × SendsBefore items before inputs doubled all_sent end_sent
