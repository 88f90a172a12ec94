-- The steps of a merger that refuses shared keys, and what a merger of many sent.
use Rattle.std.proofs.Common.{◌≡◌, ℕ, Bool, true, false, cond, List, [], ◌∷◌, ◌++◌, Option, Some, None}
use Rattle.std.proofs.Common.{inl, inr, refl, sym, ap, ◌∙◌, subst, append_assoc}
use Rattle.std.proofs.lemmas.List.{append-nil}
use Rattle.std.proofs.lemmas.List.Elements.{filter-append}
use Rattle.std.specs.List.{flat_map, AllByRecursion}
use Rattle.prolly_entry.specs.Overlay.{AllRising}
use Rattle.prolly_entry.specs.Record.{Record}
use Rattle.prolly_entry.specs.lemmas.Lists.{all_append}
use Rattle.prolly_entry.specs.lemmas.RisingRecords.{AllAbove, IsRising, is_rising, above_trans}
use Rattle.prolly_tree.specs.Merge.{Input, raw_merged_part}
use Rattle.prolly_tree.specs.lemmas.Merging.{not_below_above}
use Rattle.prolly_laws.specs.Merging.{merged_part_rises}
use Rattle.prolly_link.specs.Identity.{LinkId}
use Rattle.prolly_link.specs.declared.message.End.{End}
use Rattle.prolly_link.specs.declared.message.End.TheVariants.{Clean, Fault}
use Rattle.prolly_link.specs.declared.message.Progress.{Progress}
use Rattle.prolly_link.specs.declared.fault.RunFault.{RunFault}
use Rattle.prolly_link.specs.declared.fault.RunFault.TheVariants.{Memory}
use Rattle.prolly_merge.specs.declared.heads.Head.{Head}
use Rattle.prolly_merge.specs.declared.heads.Head.TheVariants.{Ready, Ended}
use Rattle.prolly_merge.specs.declared.heads.MergeStep.TheVariants.{Send}
use Rattle.prolly_merge.specs.declared.heads.Peeked.{Peeked}
use Rattle.prolly_merge.specs.declared.round.SharedKey.{SharedKey}
use Rattle.prolly_merge.specs.declared.round.SharedKey.TheVariants.{LastWins, Refused}
use Rattle.prolly_merge.specs.declared.unique.Doubled.{Doubled}
use Rattle.prolly_merge.specs.Each.{Each}
use Rattle.prolly_merge.specs.Head.{in_hand, Fits, Allows, IsFaultIn, Stops}
use Rattle.prolly_merge.specs.Inputs.{lists_of, stop_end}
use Rattle.prolly_merge.specs.Many.{hands_with, IsLeftOut, NoneLeftOut, AllAlone, Doubles}
use Rattle.prolly_merge.specs.Many.{HaltsApart, SendsMany}
use Rattle.prolly_merge.specs.Merged.{SendsAll}
use Rattle.prolly_merge.specs.MergeStep.{IsStep}
use Rattle.prolly_merge.specs.Peeked.{Advances, heads_in, places_after}
use Rattle.prolly_merge.specs.Places.{Place, heads_of, AllFit, after, wholes, lefts, ComeFirst, Halts}
use Rattle.prolly_merge.specs.Unique.{records_with, AreApart, IsAlone, IsDoubled, SendsApart}
use Rattle.prolly_merge.specs.lemmas.Stops.{done_all}
use Rattle.prolly_merge.proofs.Apart.{above_none, same_key, records_left, left_more, alone_goes}
use Rattle.prolly_merge.proofs.Apart.{are_apart, is_among, in_order, none_before}
use Rattle.prolly_merge.proofs.Places.{begin_lists, AllMove, back, fit_back, wholes_back, lefts_back}
use Rattle.prolly_merge.proofs.Places.{lefts_not_below, stops, sends_items, own_items}
use Rattle.prolly_merge.proofs.Shared.{with_key, hands_more}
use Rattle.prolly_merge.proofs.Steps.{place_start, all_go_on, heads_are}

-- ---- what is left, by the heads

hand_is : (key : List ℕ) (h : Head) (f : Input RunFault) → Allows key h → Fits h f →
    IsRising (in_hand h ++ f.records) →
    records_with key (in_hand h ++ f.records) ≡ records_with key (in_hand h)
hand_is key (Ended e) f allows fit rising = ap (λ i. records_with key i.records) fit
hand_is key (Ready r) f allows fit rising = go (with_key key r) refl
  where
    go : (b : Bool) → with_key key r ≡ b →
        cond b (r ∷ records_with key f.records) (records_with key f.records) ≡ cond b (r ∷ []) []
    go true e = ap (λ rs. r ∷ rs) (above_none key f.records
        (subst (λ k. AllAbove k f.records) (same_key r key e) rising.0))
    go false e = above_none key f.records
        (above_trans key r.key f.records (not_below_above r.key key allows e) rising.0)

-- Of a key that no head is below, what is left has what the heads have.
hands_are : (key : List ℕ) (ps : List Place) (fs : List (Input RunFault)) →
    AllByRecursion (Allows key) (heads_of ps) → AllFit ps fs → AllRising (lists_of (lefts ps fs)) →
    records_with key (records_left (lefts ps fs)) ≡ hands_with key (heads_of ps)
hands_are key [] [] allows fit rising = refl
hands_are key [] (f ∷ fs) allows fit rising = absurd fit
hands_are key (p ∷ ps) [] allows fit rising = absurd fit
hands_are key (p ∷ ps) (f ∷ fs) allows fit rising =
    left_more key (after (in_hand p.head) f) (lefts ps fs)
    ∙ ap (λ rs. rs ++ records_with key (records_left (lefts ps fs)))
    (hand_is key p.head f allows.0 fit.0 (is_rising (in_hand p.head ++ f.records) rising.0))
    ∙ ap (λ rs. records_with key (in_hand p.head) ++ rs)
    (hands_are key ps fs allows.1 fit.1 rising.1)
    ∙ sym (hands_more key p.head (heads_of ps))

-- ---- one step

-- Where no more than the heads was received, none is left out.
begins_whole : (ps : List Place) → AllByRecursion (λ p. p.received ≡ in_hand p.head) ps →
    NoneLeftOut ps []
begins_whole ps h fs fit rising key = ap (λ i. records_with key (records_left i))
    (begin_lists ps fs h)

-- A record that no other head has the key of is sent, and none is left out.
goes_alone : (ps qs : List Place) (xs : List Record) (r : Record) → ComeFirst ps xs →
    NoneLeftOut ps xs → AllByRecursion (Allows r.key) (heads_of ps) →
    IsLeftOut (heads_of ps) r None → AllMove r.key ps qs → NoneLeftOut qs (xs ++ r ∷ [])
goes_alone ps qs xs r first none allows alone moves fs fit rising key =
    let es : List (Input RunFault) = back r.key ps qs fs in
    let same : wholes ps es ≡ wholes qs fs = wholes_back r.key ps qs fs moves in
    let fits : AllFit ps es = fit_back r.key ps qs fs moves fit in
    let rises : AllRising (lists_of (wholes ps es)) =
    subst (λ i. AllRising (lists_of i)) (sym same) rising in
    let left_rises = (first es fits rises).rising in
    let left = records_with key (records_left (lefts qs fs)) in
    let goes : records_with key (records_left (lefts ps es)) ≡ records_with key (r ∷ []) ++ left =
    alone_goes r (lefts ps es) left_rises (lefts_not_below r.key ps es allows fits)
    (hands_are r.key ps es allows fits left_rises ∙ alone) key
    ∙ ap (λ i. records_with key (r ∷ []) ++ records_with key (records_left i))
    (sym (lefts_back r.key ps qs fs moves fit)) in
    ap (λ i. records_with key (records_left i)) (sym same) ∙ none es fits rises key
    ∙ ap (λ rs. records_with key xs ++ rs) goes
    ∙ sym (append_assoc (records_with key xs) (records_with key (r ∷ [])) left)
    ∙ ap (λ rs. rs ++ left) (sym (filter-append (with_key key) xs (r ∷ [])))

-- What was sent stays alone.
stays_alone : (key : List ℕ) (ps qs : List Place) (xs : List Record) → AllAlone ps xs →
    AllMove key ps qs → AllAlone qs xs
stays_alone key ps qs xs alone moves fs fit rising =
    let es : List (Input RunFault) = back key ps qs fs in
    let same : wholes ps es ≡ wholes qs fs = wholes_back key ps qs fs moves in
    subst (λ i. AllByRecursion (IsAlone (lists_of i)) xs) same
    (alone es (fit_back key ps qs fs moves fit)
    (subst (λ i. AllRising (lists_of i)) (sym same) rising))

-- A record that no other head has the key of is sent, and is alone.
sent_alone : (ps qs : List Place) (xs : List Record) (r : Record) → ComeFirst ps xs →
    NoneLeftOut ps xs → AllAlone ps xs → AllByRecursion (Allows r.key) (heads_of ps) →
    IsLeftOut (heads_of ps) r None → AllMove r.key ps qs → ComeFirst qs (xs ++ r ∷ []) →
    AllAlone qs (xs ++ r ∷ [])
sent_alone ps qs xs r first none before allows alone moves next fs fit rising =
    let es : List (Input RunFault) = back r.key ps qs fs in
    let same : wholes ps es ≡ wholes qs fs = wholes_back r.key ps qs fs moves in
    let fits : AllFit ps es = fit_back r.key ps qs fs moves fit in
    let rises : AllRising (lists_of (wholes ps es)) =
    subst (λ i. AllRising (lists_of i)) (sym same) rising in
    let left : List Record = raw_merged_part (lefts qs fs) in
    let merged : raw_merged_part (wholes qs fs) ≡ xs ++ r ∷ left =
    (next fs fit rising).merged ∙ append_assoc xs (r ∷ []) left in
    let sent : records_with r.key xs ≡ [] = none_before xs left r (subst IsRising merged
    (is_rising (raw_merged_part (wholes qs fs)) (merged_part_rises RunFault (wholes qs fs)))) in
    let own : IsAlone (lists_of (wholes qs fs)) r =
    ap (λ i. records_with r.key (records_left i)) (sym same) ∙ none es fits rises r.key
    ∙ ap (λ rs. rs ++ records_with r.key (records_left (lefts ps es))) sent
    ∙ hands_are r.key ps es allows fits (first es fits rises).rising ∙ alone in
    all_append (IsAlone (lists_of (wholes qs fs))) xs (r ∷ [])
    (stays_alone r.key ps qs xs before moves fs fit rising) (own, tt)

-- A record that another head has the key of is taken, and both are told.
goes_doubled : (ps qs : List Place) (xs : List Record) (d : Doubled) → ComeFirst ps xs →
    NoneLeftOut ps xs → AllByRecursion (Allows d.second.key) (heads_of ps) →
    IsLeftOut (heads_of ps) d.second (Some d.first) → AllMove d.second.key ps qs → Doubles qs d
goes_doubled ps qs xs d first none allows left moves fs fit rising =
    let key = d.second.key in
    let es : List (Input RunFault) = back key ps qs fs in
    let same : wholes ps es ≡ wholes qs fs = wholes_back key ps qs fs moves in
    let fits : AllFit ps es = fit_back key ps qs fs moves fit in
    let rises : AllRising (lists_of (wholes ps es)) =
    subst (λ i. AllRising (lists_of i)) (sym same) rising in
    let before = records_with key xs ++ left.0 in
    let all : records_with key (records_left (wholes ps es)) ≡
    before ++ d.first ∷ d.second ∷ [] =
    none es fits rises key ∙ ap (λ rs. records_with key xs ++ rs)
    (hands_are key ps es allows fits (first es fits rises).rising ∙ left.1)
    ∙ sym (append_assoc (records_with key xs) left.0 (d.first ∷ d.second ∷ [])) in
    subst (λ i. IsDoubled (lists_of i) d) same (record {
      same = (is_among key (records_left (wholes ps es)) before (d.second ∷ []) d.first all).0;
      order = in_order key (lists_of (wholes ps es)) before [] d.first d.second rises all;
      last = (before, all);
    })

module _ {I : Type 0} (link : I → LinkId) (progress : I → Progress) (Follows : I → I → Type 0)
    (received : I → I → List Record) where
  abbrev Advance : List (Peeked I) → List (Peeked I) → Type 0
  Advance = Each (Advances link progress Follows)

  abbrev places : List (Peeked I) → List (Peeked I) → List Place
  places = places_after received

  -- At the start none is left out.
  pub start_whole : ((a : I) → Follows a a) → ((a : I) → received a a ≡ []) →
      (os : List (Peeked I)) → NoneLeftOut (places os os) []
  start_whole stays received_none os = begins_whole (places os os)
      (place_start link progress Follows received stays received_none os)

  module _ (goes_on : (a b c : I) → Follows a b → Follows b c → Follows a c)
      (received_both : (a b c : I) → Follows a b → Follows b c →
      received a c ≡ received a b ++ received b c) where
    -- After a step that sends a record which no other head has the key of, none is left out.
    pub step_alone : (os ms ns : List (Peeked I)) (xs : List Record) (r : Record) →
        Advance os ms → ComeFirst (places os ms) xs → NoneLeftOut (places os ms) xs →
        IsStep link progress Follows received ms (Send r) ns → IsLeftOut (heads_in ms) r None →
        NoneLeftOut (places os ns) (xs ++ r ∷ [])
    step_alone os ms ns xs r a first none step alone =
        let heads = heads_are link progress Follows received goes_on received_both os ms a in
        goes_alone (places os ms) (places os ns) xs r first none
        (subst (AllByRecursion (Allows r.key)) (sym heads) step.0)
        (subst (λ hs. IsLeftOut hs r None) (sym heads) alone)
        (all_go_on link progress Follows received goes_on received_both r.key os ms ns a step.2).1

    -- After a step that takes a record, what was sent before is alone still.
    pub step_stays_alone : (os ms ns : List (Peeked I)) (xs : List Record) (r : Record) →
        Advance os ms → AllAlone (places os ms) xs →
        IsStep link progress Follows received ms (Send r) ns → AllAlone (places os ns) xs
    step_stays_alone os ms ns xs r a alone step =
        stays_alone r.key (places os ms) (places os ns) xs alone
        (all_go_on link progress Follows received goes_on received_both r.key os ms ns a step.2).1

    -- After a step that sends a record which no other head has the key of, it is alone too.
    pub step_sends_alone : (os ms ns : List (Peeked I)) (xs : List Record) (r : Record) →
        Advance os ms → ComeFirst (places os ms) xs → NoneLeftOut (places os ms) xs →
        AllAlone (places os ms) xs → IsStep link progress Follows received ms (Send r) ns →
        IsLeftOut (heads_in ms) r None → ComeFirst (places os ns) (xs ++ r ∷ []) →
        AllAlone (places os ns) (xs ++ r ∷ [])
    step_sends_alone os ms ns xs r a first none before step alone next =
        let heads = heads_are link progress Follows received goes_on received_both os ms a in
        sent_alone (places os ms) (places os ns) xs r first none before
        (subst (AllByRecursion (Allows r.key)) (sym heads) step.0)
        (subst (λ hs. IsLeftOut hs r None) (sym heads) alone)
        (all_go_on link progress Follows received goes_on received_both r.key os ms ns a step.2).1
        next

    -- After a step that takes a record which another head has the key of, both are told.
    pub step_doubled : (os ms ns : List (Peeked I)) (xs : List Record) (d : Doubled) →
        Advance os ms → ComeFirst (places os ms) xs → NoneLeftOut (places os ms) xs →
        IsStep link progress Follows received ms (Send d.second) ns →
        IsLeftOut (heads_in ms) d.second (Some d.first) → Doubles (places os ns) d
    step_doubled os ms ns xs d a first none step left =
        let heads = heads_are link progress Follows received goes_on received_both os ms a in
        goes_doubled (places os ms) (places os ns) xs d first none
        (subst (AllByRecursion (Allows d.second.key)) (sym heads) step.0)
        (subst (λ hs. IsLeftOut hs d.second (Some d.first)) (sym heads) left)
        (all_go_on link progress Follows received goes_on received_both d.second.key os ms ns a
        step.2).1

-- ---- what was sent

not_clean : (f : RunFault) (end : End) → end ≡ Fault f → end ≡ Clean → ⊥
not_clean f end e h = cc

-- Where memory was refused for a record, it halts.
pub halts_refused : (shared : SharedKey) (ps : List Place) (xs : List Record) (r : Record) →
    ComeFirst ps (xs ++ r ∷ []) → (shared ≡ Refused → AllAlone ps xs) →
    HaltsApart shared ps xs (Fault Memory) None
halts_refused shared ps xs r first alone = (
  inr (refl, (r ∷ [], first)),
  λ refused clean. absurd (not_clean Memory (Fault Memory) refl clean),
  alone,
)

fault_not_clean : (hs : List Head) (end : End) → IsFaultIn hs end → end ≡ Clean → ⊥
fault_not_clean [] end at clean = absurd at
fault_not_clean (Ready r ∷ hs) end at clean = fault_not_clean hs end at clean
fault_not_clean (Ended Clean ∷ hs) end at clean = fault_not_clean hs end at clean
fault_not_clean (Ended (Fault f) ∷ hs) end at clean = not_clean f end at clean

nothing_left : (ps : List Place) (end : End) → Stops (heads_of ps) end → end ≡ Clean →
    (fs : List (Input RunFault)) → AllFit ps fs → records_left (lefts ps fs) ≡ []
nothing_left ps end (inl at) clean fs fit = absurd (fault_not_clean (heads_of ps) end at clean)
nothing_left ps end (inr done) clean fs fit = (done_all ps fs done.1 fit).records

-- Where none is left out, and the end is clean, no key stands in two inputs.
sends_apart : (ps : List Place) (xs : List Record) (end : End) → Halts ps xs end → end ≡ Clean →
    NoneLeftOut ps xs → (fs : List (Input RunFault)) → AllFit ps fs →
    AllRising (lists_of (wholes ps fs)) → AreApart (lists_of (wholes ps fs))
sends_apart ps xs end (inr h) clean none fs fit rising = absurd (not_clean _ end h.0 clean)
sends_apart ps xs end (inl h) clean none fs fit rising =
    let whole = wholes ps fs in
    let left = nothing_left ps end h.1 clean fs fit in
    let all = (stops ps xs end h.0 h.1 fs fit rising).0 in
    are_apart (lists_of whole) (raw_merged_part whole)
    (is_rising (raw_merged_part whole) (merged_part_rises RunFault whole))
    (λ key. none fs fit rising key
    ∙ ap (λ rs. records_with key xs ++ records_with key rs) left
    ∙ append-nil (records_with key xs) ∙ ap (records_with key) (sym all))

last_not_refused : LastWins ≡ Refused → ⊥
last_not_refused e = cc

-- Where memory was refused before anything was received, none was sent.
pub sends_none : {T : Type 0} (items_of : Record → List T) (shared : SharedKey)
    (before sent : List T) (end_sent : End) → sent ≡ before → end_sent ≡ Fault Memory →
    (inputs : List (Input RunFault)) →
    SendsMany (flat_map items_of) shared before inputs None sent end_sent
sends_none {T} items_of shared before sent end_sent is is' inputs = go shared
  where
    all : SendsAll before (flat_map items_of (raw_merged_part inputs)) (stop_end inputs) sent
        end_sent
    all = inr (
      is',
      ([], (flat_map items_of (raw_merged_part inputs), refl), is ∙ sym (append-nil before)),
    )

    go : (shared : SharedKey) →
        SendsMany (flat_map items_of) shared before inputs None sent end_sent
    go LastWins = (refl, all)
    go Refused = (
      all,
      λ clean. absurd (not_clean Memory end_sent is' clean),
      ([], is ∙ sym (append-nil before), tt),
    )

-- Where a merger of many halts, it sent what it is to send, and its end.
pub sends_many : {T : Type 0} (items_of : Record → List T) (shared : SharedKey) (ps : List Place)
    (before sent : List T) (xs : List Record) (end end_sent : End) (doubled : Option Doubled) →
    HaltsApart shared ps xs end doubled → sent ≡ before ++ flat_map items_of xs →
    end_sent ≡ end → (fs : List (Input RunFault)) → AllFit ps fs →
    AllRising (lists_of (wholes ps fs)) →
    SendsMany (flat_map items_of) shared before (wholes ps fs) doubled sent end_sent
sends_many items_of LastWins ps before sent xs end end_sent None h is is' fs fit rising =
    (refl, sends_items items_of ps before sent xs end end_sent h.0 is is' fs fit rising)
sends_many items_of LastWins ps before sent xs end end_sent (Some d) h is is' fs fit rising =
    absurd (last_not_refused h.0)
sends_many items_of Refused ps before sent xs end end_sent None h is is' fs fit rising = (
  sends_items items_of ps before sent xs end end_sent h.0 is is' fs fit rising,
  λ clean. sends_apart ps xs end h.0 (sym is' ∙ clean) (h.1 refl (sym is' ∙ clean)) fs fit rising,
  (xs, is, h.2 refl fs fit rising),
)
sends_many items_of Refused ps before sent xs end end_sent (Some d) h is is' fs fit rising = (
  h.3 fs fit rising,
  record {
    sent = xs;
    rest = raw_merged_part (lefts ps fs);
    sent_is = is;
    next_is = (h.2 fs fit rising).merged
        ∙ append_assoc xs (d.second ∷ []) (raw_merged_part (lefts ps fs));
    apart = h.4 fs fit rising;
    end_is = is' ∙ h.1;
  },
)

-- ---- read by the caller

-- All was sent of the inputs that were given.
pub sent_all : {T : Type 0} (items : List Record → List T) (before sent : List T) (end_sent : End)
    (doubled : Option Doubled) (same given : List (Input RunFault)) → same ≡ given →
    (AllRising (lists_of given) → SendsMany items LastWins before given doubled sent end_sent) →
    AllRising (lists_of same) →
    SendsAll before (items (raw_merged_part same)) (stop_end same) sent end_sent
sent_all items before sent end_sent doubled same given is all =
    subst (λ x. AllRising (lists_of x) →
    SendsAll before (items (raw_merged_part x)) (stop_end x) sent end_sent) (sym is)
    (λ rising. (all rising).1)

-- The same of records, each of which is its own item.
pub sent_records : (before sent : List Record) (end_sent : End) (doubled : Option Doubled)
    (same given : List (Input RunFault)) → same ≡ given → (AllRising (lists_of given) →
    SendsMany (flat_map (λ r. r ∷ [])) LastWins before given doubled sent end_sent) →
    AllRising (lists_of same) →
    SendsAll before (raw_merged_part same) (stop_end same) sent end_sent
sent_records before sent end_sent doubled same given is all rising =
    subst (λ ms. SendsAll before ms (stop_end same) sent end_sent)
    (own_items (raw_merged_part same))
    (sent_all (flat_map (λ r. r ∷ [])) before sent end_sent doubled same given is all rising)

own_apart : (before sent : List Record) (end_sent : End) (doubled : Option Doubled)
    (inputs : List (Input RunFault)) →
    SendsApart (flat_map (λ r. r ∷ [])) before inputs doubled sent end_sent →
    SendsApart (λ records. records) before inputs doubled sent end_sent
own_apart before sent end_sent None inputs all = (
  subst (λ ms. SendsAll before ms (stop_end inputs) sent end_sent)
      (own_items (raw_merged_part inputs)) all.0,
  all.1,
  (all.2.0, all.2.1 ∙ ap (λ rs. before ++ rs) (own_items all.2.0), all.2.2),
)
own_apart before sent end_sent (Some d) inputs all = (
  all.0,
  record {
    sent = all.1.sent;
    rest = all.1.rest;
    sent_is = all.1.sent_is ∙ ap (λ rs. before ++ rs) (own_items all.1.sent);
    next_is = all.1.next_is;
    apart = all.1.apart;
    end_is = all.1.end_is;
  },
)

-- And where shared keys are refused.
pub sent_apart : (before sent : List Record) (end_sent : End) (doubled : Option Doubled)
    (same given : List (Input RunFault)) → same ≡ given → (AllRising (lists_of given) →
    SendsMany (flat_map (λ r. r ∷ [])) Refused before given doubled sent end_sent) →
    AllRising (lists_of same) →
    SendsApart (λ records. records) before same doubled sent end_sent
sent_apart before sent end_sent doubled same given is all =
    subst (λ x. AllRising (lists_of x) →
    SendsApart (λ records. records) before x doubled sent end_sent) (sym is)
    (λ rising. own_apart before sent end_sent doubled given (all rising))
