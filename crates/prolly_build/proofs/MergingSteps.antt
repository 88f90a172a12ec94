-- What mergers received over links that carried nothing before.
use Rattle.std.proofs.Common.{◌≡◌, List, [], ◌∷◌, All, map, refl, ap, subst}
use Rattle.std.proofs.lemmas.List.Elements.{All-head, All-tail, All-cons, All-nil}
use Rattle.prolly_tree.specs.Merge.{Input, merged_part}
use Rattle.prolly_entry.specs.Overlay.{AllRising}
use Rattle.prolly_entry.specs.Pair.{Pair}
use Rattle.prolly_entry.specs.Record.{Record}
use Rattle.prolly_link.specs.Views.{Receiving}
use Rattle.prolly_link.specs.Progress.{end_given}
use Rattle.prolly_link.specs.declared.message.End.{End}
use Rattle.prolly_link.specs.Progress.{HasEnded}
use Rattle.prolly_link.specs.Growth.{items_between}
use Rattle.prolly_merge.specs.Each.{Each}
use Rattle.prolly_link.specs.declared.fault.RunFault.{RunFault}
use Rattle.prolly_merge.specs.Inputs.{input_of, inputs_of, lists_of, stop_end, Ends}
use Rattle.prolly_merge.specs.Merged.{SendsAll}
use Rattle.prolly_build.specs.RunResult.{IsUnreceived}
use Rattle.prolly_build.specs.Mergers.{received_input, MergesAll}

module _ (Follows : Receiving Record → Receiving Record → Type 0) where
  -- the inputs of a merger, all received to their ends
  abbrev AllReceived : List (Receiving Record) → List (Receiving Record) → Type 0
  AllReceived inputs inputs' = Each (Ends (λ r. r.link) (λ r. r.progress) Follows) inputs inputs'

  pub same_links : (inputs inputs' : List (Receiving Record)) → AllReceived inputs inputs' →
      map (λ r. r.link) inputs' ≡ map (λ r. r.link) inputs
  same_links [] [] e = refl
  same_links [] (s ∷ ss) e = absurd e
  same_links (r ∷ rs) [] e = absurd e
  same_links (r ∷ rs) (s ∷ ss) e = let h = e.0.link_is in let t = same_links rs ss e.1 in cc (h, t)

  pub all_ended : (inputs inputs' : List (Receiving Record)) → AllReceived inputs inputs' →
      All (λ r. HasEnded r.progress) inputs'
  all_ended [] [] e = All-nil _
  all_ended [] (s ∷ ss) e = absurd e
  all_ended (r ∷ rs) [] e = absurd e
  all_ended (r ∷ rs) (s ∷ ss) e = All-cons (λ (x : Receiving Record). HasEnded x.progress) s ss
      e.0.ended (all_ended rs ss e.1)

  pub all_received : (inputs inputs' : List (Receiving Record)) → AllReceived inputs inputs' →
      All IsUnreceived inputs →
      inputs_of (λ r. r.progress) (λ a b. items_between a.items b.items) inputs inputs' ≡
      map received_input inputs'
  all_received [] [] e unread = refl
  all_received [] (s ∷ ss) e unread = absurd e
  all_received (r ∷ rs) [] e unread = absurd e
  all_received (r ∷ rs) (s ∷ ss) e unread =
      let none = (All-head IsUnreceived r rs unread).0 in
      let first : input_of (items_between r.items s.items) (end_given s.progress) ≡
      received_input s =
      ap (λ (xs : List Record). input_of (items_between xs s.items) (end_given s.progress)) none in
      let rest = all_received rs ss e.1 (All-tail IsUnreceived r rs unread) in
      cc (first, rest)

-- what a merger sent over an output that carried nothing before
pub merges_all : (given inputs : List (Input RunFault)) (before sent : List Pair) (end : End) →
    given ≡ inputs → before ≡ [] →
    (AllRising (lists_of given) → SendsAll before (merged_part given) (stop_end given) sent end) →
    MergesAll inputs sent end
merges_all given inputs before sent end given_is none sends =
    subst (λ (is : List (Input RunFault)). MergesAll is sent end) given_is
    (subst (λ (xs : List Pair). AllRising (lists_of given) →
    SendsAll xs (merged_part given) (stop_end given) sent end) none sends)
