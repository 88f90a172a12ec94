-- How a merger goes on, and how it stops.
use Rattle.std.proofs.Common.{◌≡◌, ℕ, Bool, true, false, cond, List, [], ◌∷◌, ◌++◌, map, Option}
use Rattle.std.proofs.Common.{Some, None, inl, inr, refl, sym, ap, ◌∙◌, subst, append_assoc}
use Rattle.std.proofs.lemmas.List.{append-nil}
use Rattle.std.specs.Ordering.{is_eq}
use Rattle.std.specs.List.{AllByRecursion, flat_map}
use Rattle.std.proofs.lemmas.Grind.{flat_map-append}
use Rattle.prolly_entry.specs.Record.{Record}
use Rattle.prolly_entry.specs.Keys.{key_order, KeyBelow}
use Rattle.prolly_entry.specs.Overlay.{change_of, or_else, last_change_of}
use Rattle.prolly_entry.specs.Overlay.{AllRising, NotBelow}
use Rattle.prolly_entry.specs.Overlay.{rest_after}
use Rattle.prolly_tree.specs.Merge.{Input, stop}
use Rattle.prolly_tree.specs.Merge.{raw_merged_part, stop_fault}
use Rattle.prolly_entry.specs.lemmas.RisingRecords.{IsRising, is_rising, rising_is, found_above}
use Rattle.prolly_entry.specs.lemmas.RisingRecords.{above_trans}
use Rattle.prolly_link.specs.declared.message.End.{End}
use Rattle.prolly_link.specs.declared.fault.RunFault.{RunFault}
use Rattle.prolly_merge.specs.declared.heads.Head.{Head}
use Rattle.prolly_merge.specs.declared.heads.Head.TheVariants.{Ready, Ended}
use Rattle.prolly_merge.specs.Inputs.{fault_in, end_of, lists_of, stop_end}
use Rattle.prolly_merge.specs.Head.{in_hand, Fits, Allows, has_key, MovesIf, Moves}
use Rattle.prolly_merge.specs.Head.{Stops}
use Rattle.prolly_merge.specs.Places.{Place, heads_of, AllFit, after, wholes, lefts, Continues}
use Rattle.prolly_merge.specs.Places.{ComeFirst, Halts}
use Rattle.prolly_merge.specs.Merged.{SendsAll}
use Rattle.prolly_laws.specs.Merging.{merged_step}
use Rattle.prolly_tree.specs.MergeSteps.{SaysOn, rests}
use Rattle.prolly_tree.specs.lemmas.Merging.{not_below_above}
use Rattle.prolly_merge.specs.lemmas.Stops.{left_is}

-- ---- the beginning

-- There, what is left is the whole.
pub begin_lists : (ps : List Place) (fs : List (Input RunFault)) →
    AllByRecursion (λ p. p.received ≡ in_hand p.head) ps → wholes ps fs ≡ lefts ps fs
begin_lists [] fs h = refl
begin_lists (p ∷ ps) [] h = refl
begin_lists (p ∷ ps) (f ∷ fs) h = ap (λ r. after r f ∷ wholes ps fs) h.0 ∙
    ap (λ is. after (in_hand p.head) f ∷ is) (begin_lists ps fs h.1)

-- Where no more than the heads was received, nothing was sent.
pub begins : (ps : List Place) → AllByRecursion (λ p. p.received ≡ in_hand p.head) ps →
    ComeFirst ps []
begins ps h fs fit rising =
    let same : wholes ps fs ≡ lefts ps fs = begin_lists ps fs h in
    record {
      merged = ap raw_merged_part same;
      fault = ap (λ i. stop_fault (stop i)) same;
      rising = subst (λ i. AllRising (lists_of i)) same rising;
    }

-- ---- one step

-- Where the record of a key is sent, places go to those behind them.
abbrev pub AllMove : List ℕ → List Place → List Place → Type 0
AllMove key [] [] = Unit {0}
AllMove key [] (q ∷ qs) = ⊥
AllMove key (p ∷ ps) [] = ⊥
AllMove key (p ∷ ps) (q ∷ qs) =
    ((got : List Record) × (q.received ≡ p.received ++ got) × Moves key p.head got q.head) ×
    AllMove key ps qs

-- What the inputs gave and may still give, from before the step on.
pub back : List ℕ → List Place → List Place → List (Input RunFault) → List (Input RunFault)
back key [] qs fs = []
back key (p ∷ ps) [] fs = []
back key (p ∷ ps) (q ∷ qs) [] = []
back key (p ∷ ps) (q ∷ qs) (f ∷ fs) = cond (has_key key p.head) (after (in_hand q.head) f) f ∷ back
    key ps qs fs

fit_one : (key : List ℕ) (h : Head) (got : List Record) (h' : Head) (f : Input RunFault) →
    Moves key h got h' → Fits h' f → Fits h (cond (has_key key h) (after (in_hand h') f) f)
fit_one key (Ended e) got h' f m fit = subst (λ x. Fits x f) m.1 fit
fit_one key (Ready r) got h' f m fit = tt

-- It fits the heads before the step.
pub fit_back : (key : List ℕ) (ps qs : List Place) (fs : List (Input RunFault)) → AllMove key ps qs →
    AllFit qs fs → AllFit ps (back key ps qs fs)
unfolding back
fit_back key [] [] fs m fit = tt
fit_back key [] (q ∷ qs) fs m fit = absurd m
fit_back key (p ∷ ps) [] fs m fit = absurd m
fit_back key (p ∷ ps) (q ∷ qs) [] m fit = absurd fit
fit_back key (p ∷ ps) (q ∷ qs) (f ∷ fs) m fit =
    (fit_one key p.head m.0.0 q.head f m.0.2 fit.0, fit_back key ps qs fs m.1 fit.1)

whole_one : (key : List ℕ) (xs ys : List Record) (h : Head) (got : List Record) (h' : Head)
    (f : Input RunFault) →
    ys ≡ xs ++ got → Moves key h got h' → after xs (cond (has_key key h) (after (in_hand h') f) f) ≡
    after ys f
whole_one key xs ys h got h' f is m = go (has_key key h) m
  where
    same : List Record → Input RunFault
    same records = record { records = records; fault = f.fault }

    go : (b : Bool) → MovesIf b h got h' → after xs (cond b (after (in_hand h') f) f) ≡ after ys f
    go true m = ap same (sym (append_assoc xs (in_hand h') f.records) ∙
        ap (λ g. (xs ++ g) ++ f.records) (sym m) ∙ ap (λ y. y ++ f.records) (sym is))
    go false m = ap (λ y. same (y ++ f.records)) (sym (is ∙ ap (λ g. xs ++ g) m.0 ∙ append-nil xs))

-- It makes the same wholes.
pub wholes_back : (key : List ℕ) (ps qs : List Place) (fs : List (Input RunFault)) → AllMove key ps qs →
    wholes ps (back key ps qs fs) ≡ wholes qs fs
unfolding back
wholes_back key [] [] fs m = refl
wholes_back key [] (q ∷ qs) fs m = absurd m
wholes_back key (p ∷ ps) [] fs m = absurd m
wholes_back key (p ∷ ps) (q ∷ qs) [] m = refl
wholes_back key (p ∷ ps) (q ∷ qs) (f ∷ fs) m =
    ap (λ i. i ∷ wholes ps (back key ps qs fs))
    (whole_one key p.received q.received p.head m.0.0 q.head f m.0.1 m.0.2)
    ∙ ap (λ is. after q.received f ∷ is) (wholes_back key ps qs fs m.1)

abbrev rest_of : List ℕ → Input RunFault → Input RunFault
rest_of key i = record { records = rest_after key i.records; fault = i.fault }

left_one : (key : List ℕ) (h : Head) (got : List Record) (h' : Head) (f : Input RunFault) →
    Moves key h got h' → Fits h' f → after (in_hand h') f ≡
    rest_of key (after (in_hand h) (cond (has_key key h) (after (in_hand h') f) f))
left_one key (Ended e) got h' f m fit =
    let none : Fits (Ended e) f = subst (λ x. Fits x f) m.1 fit in
    ap (λ x. after (in_hand x) f) m.1
    ∙ subst (λ i. after [] i ≡ rest_of key (after [] i)) (sym none) refl
left_one key (Ready r) got h' f m fit = go (is_eq (key_order r.key key)) m
  where
    go : (b : Bool) → MovesIf b (Ready r) got h' →
        after (in_hand h') f ≡ record {
          records = cond b (cond b (after (in_hand h') f) f).records
              (r ∷ (cond b (after (in_hand h') f) f).records);
          fault = (cond b (after (in_hand h') f) f).fault;
        }
    go true m = refl
    go false m = ap (λ x. after (in_hand x) f) m.1

-- What is left is what was left before the step, without the key.
pub lefts_back : (key : List ℕ) (ps qs : List Place) (fs : List (Input RunFault)) → AllMove key ps qs →
    AllFit qs fs → lefts qs fs ≡ rests key (lefts ps (back key ps qs fs))
unfolding back
lefts_back key [] [] fs m fit = refl
lefts_back key [] (q ∷ qs) fs m fit = absurd m
lefts_back key (p ∷ ps) [] fs m fit = absurd m
lefts_back key (p ∷ ps) (q ∷ qs) [] m fit = absurd fit
lefts_back key (p ∷ ps) (q ∷ qs) (f ∷ fs) m fit =
    ap (λ i. i ∷ lefts qs fs) (left_one key p.head m.0.0 q.head f m.0.2 fit.0)
    ∙ ap (λ is. rest_of key (after (in_hand p.head)
    (cond (has_key key p.head) (after (in_hand q.head) f) f)) ∷ is)
    (lefts_back key ps qs fs m.1 fit.1)

cons_nil : (r : Record) (m : List Record) → r ∷ m ≡ [] → ⊥
cons_nil r m e = cc

live_one : (key : List ℕ) (h : Head) (f : Input RunFault) → Allows key h → Fits h f →
    SaysOn (after (in_hand h) f)
live_one key (Ended e) f allows fit = λ _. ap (λ i. i.fault) fit ∙ ap fault_in allows
live_one key (Ready r) f allows fit = λ none. absurd (cons_nil r f.records none)

not_below_one : (key : List ℕ) (h : Head) (f : Input RunFault) → Allows key h → Fits h f →
    NotBelow key (in_hand h ++ f.records)
not_below_one key (Ended e) f allows fit = subst (λ i. NotBelow key i.records) (sym fit) tt
not_below_one key (Ready r) f allows fit = allows

lefts_live : (key : List ℕ) (ps : List Place) (fs : List (Input RunFault)) →
    AllByRecursion (Allows key) (heads_of ps) → AllFit ps fs → AllByRecursion SaysOn (lefts ps fs)
lefts_live key [] fs allows fit = tt
lefts_live key (p ∷ ps) [] allows fit = tt
lefts_live key (p ∷ ps) (f ∷ fs) allows fit =
    (live_one key p.head f allows.0 fit.0, lefts_live key ps fs allows.1 fit.1)

-- Nothing that is left is below the key.
pub lefts_not_below : (key : List ℕ) (ps : List Place) (fs : List (Input RunFault)) →
    AllByRecursion (Allows key) (heads_of ps) → AllFit ps fs →
    AllByRecursion (NotBelow key) (lists_of (lefts ps fs))
lefts_not_below key [] fs allows fit = tt
lefts_not_below key (p ∷ ps) [] allows fit = tt
lefts_not_below key (p ∷ ps) (f ∷ fs) allows fit =
    (not_below_one key p.head f allows.0 fit.0, lefts_not_below key ps fs allows.1 fit.1)

found_one : (key : List ℕ) (h : Head) (f : Input RunFault) → Allows key h → Fits h f →
    IsRising (in_hand h ++ f.records) → change_of (in_hand h ++ f.records) key ≡
    change_of (in_hand h) key
found_one key (Ended e) f allows fit rising = ap (λ i. change_of i.records key) fit
found_one key (Ready r) f allows fit rising = go (is_eq (key_order r.key key)) refl
  where
    go : (b : Bool) → is_eq (key_order r.key key) ≡ b →
        cond b (Some r.value) (change_of f.records key) ≡ cond b (Some r.value) None
    go true is = refl
    go false is = let b : KeyBelow key r.key = not_below_above r.key key allows is in
        found_above key f.records (above_trans key r.key f.records b rising.0)

-- The records in hand.
abbrev pub hands_of : List Head → List (List Record)
hands_of heads = map in_hand heads

lefts_found : (key : List ℕ) (ps : List Place) (fs : List (Input RunFault)) →
    AllByRecursion (Allows key) (heads_of ps) → AllFit ps fs → AllRising (lists_of (lefts ps fs)) →
    last_change_of (lists_of (lefts ps fs)) key ≡ last_change_of (hands_of (heads_of ps)) key
lefts_found key [] [] allows fit rising = refl
lefts_found key [] (f ∷ fs) allows fit rising = absurd fit
lefts_found key (p ∷ ps) [] allows fit rising = absurd fit
lefts_found key (p ∷ ps) (f ∷ fs) allows fit rising =
    ap (λ o. or_else o (change_of (in_hand p.head ++ f.records) key))
    (lefts_found key ps fs allows.1 fit.1 rising.1)
    ∙ ap (or_else (last_change_of (hands_of (heads_of ps)) key))
    (found_one key p.head f allows.0 fit.0 (is_rising (in_hand p.head ++ f.records) rising.0))

rising_rest : (key : List ℕ) (m : List Record) → IsRising m → IsRising (rest_after key m)
rising_rest key [] h = tt
rising_rest key (r ∷ m) h = go (is_eq (key_order r.key key))
  where
    go : (b : Bool) → IsRising (cond b m (r ∷ m))
    go true = h.1
    go false = h

rising_rests : (key : List ℕ) (is : List (Input RunFault)) → AllRising (lists_of is) →
    AllRising (lists_of (rests key is))
rising_rests key [] h = tt
rising_rests key (i ∷ is) h = (
  rising_is (rest_after key i.records)
      (rising_rest key i.records (is_rising i.records h.0)),
  rising_rests key is h.1,
)

-- A record of the least key among the heads, of the last head that has it, comes next.
pub goes_on : (ps qs : List Place) (xs : List Record) (key : List ℕ) (value : Option (List ℕ)) →
    ComeFirst ps xs → AllByRecursion (Allows key) (heads_of ps) →
    last_change_of (hands_of (heads_of ps)) key ≡ Some value → AllMove key ps qs →
    ComeFirst qs (xs ++ record { key = key; value = value } ∷ [])
goes_on ps qs xs key value first allows least moves fs fit rising =
    let es : List (Input RunFault) = back key ps qs fs in
    let same : wholes ps es ≡ wholes qs fs = wholes_back key ps qs fs moves in
    let left : lefts qs fs ≡ rests key (lefts ps es) = lefts_back key ps qs fs moves fit in
    let fits : AllFit ps es = fit_back key ps qs fs moves fit in
    let before : Continues (wholes ps es) xs (lefts ps es) =
    first es fits (subst (λ i. AllRising (lists_of i)) (sym same) rising) in
    let next = merged_step (lefts ps es) key value before.rising
    (lefts_not_below key ps es allows fits) (lefts_live key ps es allows fits)
    (lefts_found key ps es allows fits before.rising ∙ least) in
    record {
      merged = ap raw_merged_part (sym same) ∙ before.merged ∙
          ap (λ ys. xs ++ ys) (next.0 ∙ ap (λ i. record { key = key; value = value } ∷
          raw_merged_part i) (sym left))
          ∙ sym (append_assoc xs (record { key = key; value = value } ∷ [])
          (raw_merged_part (lefts qs fs)));
      fault = ap (λ i. stop_fault (stop i)) (sym same) ∙ before.fault ∙ next.1 ∙
          ap (λ i. stop_fault (stop i)) (sym left);
      rising = subst (λ i. AllRising (lists_of i)) (sym left)
          (rising_rests key (lefts ps es) before.rising);
    }

-- ---- the stop

-- Where a merger stops, it sent all that was to be sent.
pub stops : (ps : List Place) (xs : List Record) (end : End) → ComeFirst ps xs →
    Stops (heads_of ps) end → (fs : List (Input RunFault)) → AllFit ps fs →
    AllRising (lists_of (wholes ps fs)) →
    (raw_merged_part (wholes ps fs) ≡ xs) × (end ≡ stop_end (wholes ps fs))
stops ps xs end first at fs fit rising =
    let c = first fs fit rising in
    let left = left_is ps fs end at fit in
    (c.merged ∙ ap (λ ys. xs ++ ys) left.0 ∙ append-nil xs, left.1 ∙ sym (ap end_of c.fault))

-- ---- what was sent

-- The items of records are those of a first part, and then those of one record more.
pub items_more : {T : Type 0} (items_of : Record → List T) (xs : List Record) (r : Record) →
    flat_map items_of (xs ++ r ∷ []) ≡ flat_map items_of xs ++ items_of r
items_more items_of xs r = flat_map-append items_of xs (r ∷ []) ∙
    ap (λ ys. flat_map items_of xs ++ ys) (append-nil (items_of r))

-- Where a merger halts, it sent the items of what is to be sent, and its end; or memory was refused
-- and it sent a prefix.
pub sends_items : {T : Type 0} (items_of : Record → List T) (ps : List Place)
    (before sent : List T) (xs : List Record) (end end_sent : End) → Halts ps xs end →
    sent ≡ before ++ flat_map items_of xs → end_sent ≡ end →
    (fs : List (Input RunFault)) → AllFit ps fs → AllRising (lists_of (wholes ps fs)) →
    SendsAll before (flat_map items_of (raw_merged_part (wholes ps fs))) (stop_end (wholes ps fs))
    sent end_sent
sends_items items_of ps before sent xs end end_sent (inl h) is is' fs fit rising =
    let all = stops ps xs end h.0 h.1 fs fit rising in
    inl (is ∙ ap (λ s. before ++ flat_map items_of s) (sym all.0), is' ∙ all.1)
sends_items items_of ps before sent xs end end_sent (inr h) is is' fs fit rising =
    let c = h.1.1 fs fit rising in
    let rest = h.1.0 ++ raw_merged_part (lefts ps fs) in
    inr (
      is' ∙ h.0,
      (
        flat_map items_of xs,
        (
          flat_map items_of rest,
          ap (flat_map items_of) (c.merged ∙ append_assoc xs h.1.0
              (raw_merged_part (lefts ps fs))) ∙ flat_map-append items_of xs rest,
        ),
        is,
      ),
    )

-- Each record is its own item.
pub own_items : (xs : List Record) → flat_map (λ r. r ∷ []) xs ≡ xs
own_items [] = refl
own_items (x ∷ xs) = ap (λ ys. x ∷ ys) (own_items xs)

-- The same where the records themselves are sent.
pub sends_records : (ps : List Place) (before sent xs : List Record) (end end_sent : End) →
    Halts ps xs end → sent ≡ before ++ xs → end_sent ≡ end →
    (fs : List (Input RunFault)) → AllFit ps fs → AllRising (lists_of (wholes ps fs)) →
    SendsAll before (raw_merged_part (wholes ps fs)) (stop_end (wholes ps fs)) sent end_sent
sends_records ps before sent xs end end_sent h is is' fs fit rising =
    subst (λ ms. SendsAll before ms (stop_end (wholes ps fs)) sent end_sent)
    (own_items (raw_merged_part (wholes ps fs)))
    (sends_items (λ r. r ∷ []) ps before sent xs end end_sent h
    (is ∙ ap (λ s. before ++ s) (sym (own_items xs))) is' fs fit rising)
