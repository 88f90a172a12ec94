-- What was sent of lists of records.
use Rattle.std.proofs.Common.{◌≡◌, ℕ, Bool, true, false, not, cond, List, [], ◌∷◌, ◌++◌, map}
use Rattle.std.proofs.Common.{Option, Some, None, Ordering, refl, sym, ap, ◌∙◌, subst}
use Rattle.std.specs.declared.cmp.Ordering.TheVariants.{Less, Equal, Greater}
use Rattle.std.specs.Ordering.{is_lt, is_eq}
use Rattle.std.proofs.lemmas.Bool.{false≢true}
use Rattle.std.specs.List.{filter}
use Rattle.prolly_tree.specs.CutShort.{IsFrontOf, AreFrontsOf, FrontsMergeToFront}
use Rattle.prolly_entry.specs.Keys.{key_order}
use Rattle.prolly_tree.specs.Merge.{Input, Stop, stop_at, stop, stop_fault, is_within}
use Rattle.prolly_tree.specs.Merge.{raw_merged_part}
use Rattle.prolly_entry.specs.Overlay.{change_of, or_else, last_change_of, raw_overlay, AllRising}
use Rattle.prolly_entry.specs.Position.{last_position, is_before}
use Rattle.prolly_entry.specs.Prefix.{IsPrefix}
use Rattle.prolly_entry.specs.Record.{Record}
use Rattle.prolly_tree.proofs.merging.Joins.{before_trans, within_earlier, filter_rising}
use Rattle.prolly_tree.proofs.merging.Joins.{found_filter, and_left, and_right}
use Rattle.prolly_entry.specs.lemmas.RisingRecords.{IsRising, AllAbove, is_rising, rising_is}
use Rattle.prolly_entry.specs.lemmas.RisingRecords.{above_trans, found_above}
use Rattle.prolly_entry.specs.lemmas.Overlays.{found_raw, rising_raw, same_lookups}
use Rattle.prolly_entry.specs.lemmas.Orders.{greater_below}
use Rattle.prolly_tree.proofs.stages.Writers.{cons_front}
use Rattle.prolly_entry.specs.lemmas.Lists.{all_kept}

-- ---- a rising list and its first records

front_above : (x : List ℕ) (xs ys : List Record) → AllAbove x (xs ++ ys) → AllAbove x xs
front_above x [] ys h = tt
front_above x (r ∷ xs) ys h = (h.0, front_above x xs ys h.1)

front_rising : (xs ys : List Record) → IsRising (xs ++ ys) → IsRising xs
front_rising [] ys h = tt
front_rising (x ∷ xs) ys h = (front_above x.key xs ys h.0, front_rising xs ys h.1)

-- what comes behind its first records says nothing of a key up to the last of them
front_found : (xs ys : List Record) (key : List ℕ) → IsRising (xs ++ ys) →
    is_before (last_position xs) (Some key) ≡ false → change_of (xs ++ ys) key ≡ change_of xs key
front_found [] ys key h k = absurd (false≢true (sym k))
front_found (x ∷ []) ys key h k = go (key_order x.key key) refl
  where
    go : (o : Ordering) → key_order x.key key ≡ o → change_of (x ∷ ys) key ≡ change_of (x ∷ []) key
    go Less e = absurd (false≢true (sym k ∙ ap is_lt e))
    go Equal e = rw e refl
    go Greater e = rw e (found_above key ys (above_trans key x.key ys (greater_below x.key key e)
        h.0))
front_found (x ∷ z ∷ xs) ys key h k = go (is_eq (key_order x.key key)) refl
    (front_found (z ∷ xs) ys key h.1 k)
  where
    go : (b : Bool) → is_eq (key_order x.key key) ≡ b →
        change_of ((z ∷ xs) ++ ys) key ≡ change_of (z ∷ xs) key →
        change_of ((x ∷ z ∷ xs) ++ ys) key ≡ change_of (x ∷ z ∷ xs) key
    go true e more = rw e refl
    go false e more = rw e more

-- ---- the records up to a stop

module _ {F : Type 0} where
  abbrev own : Input F → Option (Stop F)
  own i = stop_at (last_position i.records) i.fault

  abbrev lists_of : List (Input F) → List (List Record)
  lists_of inputs = map (λ i. i.records) inputs

  -- behind a stop are all keys above one that is behind it
  none_within : (s : Option (Stop F)) (x : List ℕ) (m : List Record) → is_within s x ≡ false →
      AllAbove x m → filter (λ r. is_within s r.key) m ≡ []
  none_within s x [] e h = refl
  none_within s x (r ∷ m) e h = rw (behind s e) (none_within s x m e h.1)
    where
      is_true : (b : Bool) → not b ≡ false → b ≡ true
      is_true true h = refl
      is_true false h = absurd (false≢true (sym h))

      behind : (s : Option (Stop F)) → is_within s x ≡ false → is_within s r.key ≡ false
      behind None e = absurd (false≢true (sym e))
      behind (Some t) e = ap not (before_trans t.position (Some x) (Some r.key)
          (is_true (is_before t.position (Some x)) e) (ap is_lt h.0))

  -- what comes up to a stop is the first part of a rising list
  within_front : (s : Option (Stop F)) (m : List Record) → IsRising m →
      IsPrefix (filter (λ r. is_within s r.key) m) m
  within_front s [] h = ([], refl)
  within_front s (r ∷ m) h = go (is_within s r.key) refl (within_front s m h.1)
    where
      go : (b : Bool) → is_within s r.key ≡ b → IsPrefix (filter (λ q. is_within s q.key) m) m →
          IsPrefix (cond b (r ∷ filter (λ q. is_within s q.key) m)
          (filter (λ q. is_within s q.key) m)) (r ∷ m)
      go true e more = cons_front r (filter (λ q. is_within s q.key) m) m more
      go false e more = (r ∷ m, ap (λ front. front ++ r ∷ m) (sym (none_within s r.key m e h.0)))

  -- ---- what was sent of lists

  sent_rising : (l : List Record) (j : Input F) → IsRising l → IsFrontOf l j → IsRising j.records
  sent_rising l j h k = front_rising j.records k.first.0 (subst IsRising k.first.1 h)

  pub all_rising : (lists : List (List Record)) (sent : List (Input F)) → AllRising lists →
      AreFrontsOf lists sent → AllRising (lists_of sent)
  all_rising [] [] h k = tt
  all_rising (l ∷ lists) [] h k = absurd k
  all_rising [] (j ∷ sent) h k = absurd k
  all_rising (l ∷ lists) (j ∷ sent) h k = (
    rising_is j.records
        (sent_rising l j (is_rising l h.0) k.0),
    all_rising lists sent h.1 k.1,
  )

  same_found : (l : List Record) (j : Input F) (key : List ℕ) → IsRising l → IsFrontOf l j →
      is_within (own j) key ≡ true → change_of l key ≡ change_of j.records key
  same_found l j key h k w = go j.fault refl
    where
      not_true : (b : Bool) → not b ≡ true → b ≡ false
      not_true true h = absurd (false≢true h)
      not_true false h = refl

      go : (f : Option F) → j.fault ≡ f → change_of l key ≡ change_of j.records key
      go None e = ap (λ (rs : List Record). change_of rs key) (sym (k.all e))
      go (Some f) e =
          let before : is_before (last_position j.records) (Some key) ≡ false =
          not_true (is_before (last_position j.records) (Some key))
          (subst (λ o. is_within (stop_at (last_position j.records) o) key ≡ true) e w) in
          ap (λ (rs : List Record). change_of rs key) k.first.1 ∙
          front_found j.records k.first.0 key (subst IsRising k.first.1 h) before

  all_found : (lists : List (List Record)) (sent : List (Input F)) (key : List ℕ) →
      AllRising lists → AreFrontsOf lists sent → is_within (stop sent) key ≡ true →
      last_change_of lists key ≡ last_change_of (lists_of sent) key
  all_found [] [] key h k w = refl
  all_found (l ∷ lists) [] key h k w = absurd k
  all_found [] (j ∷ sent) key h k w = absurd k
  all_found (l ∷ lists) (j ∷ sent) key h k w =
      let both = sym (within_earlier (own j) (stop sent) key) ∙ w in
      let first = same_found l j key (is_rising l h.0) k.0
      (and_left (is_within (own j) key) (is_within (stop sent) key) both) in
      let rest = all_found lists sent key h.1 k.1
      (and_right (is_within (own j) key) (is_within (stop sent) key) both) in
      ap (λ o. or_else o (change_of l key)) rest ∙
      ap (λ o. or_else (last_change_of (lists_of sent) key) o) first

  -- their overlay up to the stop of what was sent is the merged part of that
  pub part_of_overlay : (lists : List (List Record)) (sent : List (Input F)) → AllRising lists →
      AreFrontsOf lists sent →
      filter (λ r. is_within (stop sent) r.key) (raw_overlay lists) ≡ raw_merged_part sent
  part_of_overlay lists sent h k =
      let t : List ℕ → Bool = λ q. is_within (stop sent) q in
      let left = raw_overlay lists in
      let right = raw_overlay (lists_of sent) in
      same_lookups (filter (λ r. t r.key) left) (filter (λ r. t r.key) right)
      (filter_rising t left (rising_raw lists))
      (filter_rising t right (rising_raw (lists_of sent)))
      (λ key. found_filter t left key ∙ within key (t key) refl ∙ sym (found_filter t right key))
    where
      within : (key : List ℕ) (b : Bool) → is_within (stop sent) key ≡ b →
          cond (is_within (stop sent) key) (change_of (raw_overlay lists) key) None ≡
          cond (is_within (stop sent) key) (change_of (raw_overlay (lists_of sent)) key) None
      within key false e = rw e refl
      within key true e =
          rw e (found_raw lists key h ∙ all_found lists sent key h k e ∙
          sym (found_raw (lists_of sent) key (all_rising lists sent h k)))

pub fronts_merge : (F : Type 0) → FrontsMergeToFront F
fronts_merge F lists sent h k =
    let part = part_of_overlay lists sent h k in
    let front = within_front (stop sent) (raw_overlay lists) (rising_raw lists) in
    record {
      first = subst (λ rs. IsPrefix rs (raw_overlay lists)) part front;
      all = λ e. sym part ∙ (ap (λ s. filter (λ r. is_within s r.key) (raw_overlay lists))
          (no_stop (stop sent) e) ∙ all_kept (raw_overlay lists));
    }
  where
    no_stop : (s : Option (Stop F)) → stop_fault s ≡ None → s ≡ None
    no_stop None e = refl
    no_stop (Some s) e = absurd cc
