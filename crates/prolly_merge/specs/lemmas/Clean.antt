-- Where all inputs of a merger ended clean, and where one ended with a fault.
use Rattle.std.proofs.Common.{◌≡◌, Bool, true, false, cond, List, [], ◌∷◌, ◌++◌, Option, Some, None}
use Rattle.std.proofs.Common.{refl, sym, ap, ◌∙◌}
use Rattle.std.specs.List.{filter, AllByRecursion}
use Rattle.prolly_entry.specs.Record.{Record}
use Rattle.prolly_entry.specs.Overlay.{raw_overlay}
use Rattle.prolly_entry.specs.Position.{last_position, is_before}
use Rattle.prolly_tree.specs.Merge.{Input, Stop, stop_at, earlier_stop, stop, stop_fault, is_within}
use Rattle.prolly_tree.specs.Merge.{raw_merged_part}
use Rattle.prolly_link.specs.declared.message.End.TheVariants.{Clean, Fault}
use Rattle.prolly_link.specs.declared.fault.RunFault.{RunFault}
use Rattle.prolly_merge.specs.Inputs.{end_of, lists_of, stop_end}

-- All inputs ended clean.
abbrev pub AllClean : List (Input RunFault) → Type 0
AllClean inputs = AllByRecursion (λ i. i.fault ≡ None) inputs

no_stop : (inputs : List (Input RunFault)) → AllClean inputs → stop inputs ≡ None
no_stop [] all = refl
no_stop (i ∷ inputs) all =
    ap (λ f. earlier_stop (stop_at (last_position i.records) f) (stop inputs)) all.0
    ∙ no_stop inputs all.1

all_pass : (records : List Record) → filter (λ r. true) records ≡ records
all_pass [] = refl
all_pass (r ∷ records) = ap (λ rs. r ∷ rs) (all_pass records)

-- Where all inputs ended clean, all records of their raw overlay are to be sent, and a clean end.
pub clean_is : (inputs : List (Input RunFault)) → AllClean inputs →
    (raw_merged_part inputs ≡ raw_overlay (lists_of inputs)) × (stop_end inputs ≡ Clean)
clean_is inputs all =
    let none = no_stop inputs all in (
      ap (λ s. filter (λ r. is_within s r.key) (raw_overlay (lists_of inputs))) none ∙
          all_pass (raw_overlay (lists_of inputs)),
      ap (λ s. end_of (stop_fault s)) none,
    )

one_of_two : (b : Bool) (s t : Stop RunFault) →
    (u : Stop RunFault) × (cond b (Some t) (Some s) ≡ Some u)
one_of_two true s t = (t, refl)
one_of_two false s t = (s, refl)

stops_first : (s : Stop RunFault) (t : Option (Stop RunFault)) →
    (u : Stop RunFault) × (earlier_stop (Some s) t ≡ Some u)
stops_first s None = (s, refl)
stops_first s (Some t) = one_of_two (is_before t.position s.position) s t

stops_then : (s : Option (Stop RunFault)) (t : Stop RunFault) →
    (u : Stop RunFault) × (earlier_stop s (Some t) ≡ Some u)
stops_then None t = (t, refl)
stops_then (Some s) t = stops_first s (Some t)

has_stop : (before after : List (Input RunFault)) (i : Input RunFault) (f : RunFault) →
    i.fault ≡ Some f → (u : Stop RunFault) × (stop (before ++ i ∷ after) ≡ Some u)
has_stop [] after i f is =
    let p = last_position i.records in
    let one = stops_first (record { position = p; fault = f }) (stop after) in
    (one.0, ap (λ o. earlier_stop (stop_at p o) (stop after)) is ∙ one.1)
has_stop (b ∷ before) after i f is =
    let own = stop_at (last_position b.records) b.fault in
    let more = has_stop before after i f is in
    let one = stops_then own more.0 in
    (one.0, ap (earlier_stop own) more.1 ∙ one.1)

-- Where some input ended with a fault, the end that is to be sent is a fault.
pub fault_is : (before after : List (Input RunFault)) (input : Input RunFault) (f : RunFault) →
    input.fault ≡ Some f → (g : RunFault) × (stop_end (before ++ input ∷ after) ≡ Fault g)
fault_is before after input f is =
    let one = has_stop before after input f is in
    (one.0.fault, ap (λ s. end_of (stop_fault s)) one.1)

not_clean : (f : RunFault) → Fault f ≡ Clean → ⊥
not_clean f e = cc

-- So a clean end says that all inputs ended clean.
pub all_clean : (inputs : List (Input RunFault)) → stop_end inputs ≡ Clean → AllClean inputs
all_clean [] clean = tt
all_clean (i ∷ inputs) clean = go i.fault refl (all_clean inputs)
  where
    go : (f : Option RunFault) → i.fault ≡ f → (stop_end inputs ≡ Clean → AllClean inputs) →
        AllClean (i ∷ inputs)
    go None is rest = (
      is,
      rest (sym (ap (λ o. end_of (stop_fault
          (earlier_stop (stop_at (last_position i.records) o) (stop inputs)))) is) ∙ clean),
    )
    go (Some f) is rest =
        let one = fault_is [] inputs i f is in absurd (not_clean one.0 (sym one.1 ∙ clean))
