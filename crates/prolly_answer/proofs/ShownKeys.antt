-- Which keys of a list are past when pairs were shown, and what is found there.
use Rattle.std.proofs.Common.{◌≡◌, ℕ, ◌||◌, inl, inr, List, [], ◌∷◌, ◌++◌, refl, sym, ap}
use Rattle.std.proofs.Common.{◌∙◌, subst, append_assoc, append-nil, Bool, true, false, None}
use Rattle.std.proofs.Common.{Ordering}
use Rattle.std.proofs.lemmas.Bool.{false≢true}
use Rattle.std.proofs.lemmas.List.{map-append}
use Rattle.std.proofs.lemmas.List.Concat.{flat_map-append}
use Rattle.std.specs.List.{AllByRecursion, filter}
use Rattle.std.specs.Ordering.{is_eq, is_lt}
use Rattle.std.specs.declared.cmp.Ordering.TheVariants.{Less, Equal, Greater}
use Rattle.prolly_entry.specs.Keys.{KeyBelow, Rising, RisingFrom, key_order}
use Rattle.prolly_entry.specs.Pair.{Pair}
use Rattle.prolly_entry.specs.declared.version.Version.{Version}
use Rattle.prolly_entry.specs.lemmas.Lists.{all_front}
use Rattle.prolly_entry.specs.lemmas.Orders.{below_greater, greater_below, not_eq_below}
use Rattle.prolly_entry.specs.lemmas.Orders.{order_same, order_self, order_trans}
use Rattle.prolly_range.specs.Found.{AreSomeOf, KeysAreFound, ShownInOrder}
use Rattle.prolly_range.specs.KeySet.{KeySet, pairs_wanted}
use Rattle.prolly_range.specs.KeySet.KeySet.{Keys, Range}
use Rattle.prolly_range.specs.SetProof.{AreTaken, Due, TakenAreRight, root_due}
use Rattle.prolly_range.specs.SortedKeys.{is_one_of, keys_above, keys_up_to}
use Rattle.prolly_range.specs.lemmas.Splits.{all_behind, is_less, none_up_to, rising_above}
use Rattle.prolly_range.specs.lemmas.Splits.{rising_tail, split_keys}
use Rattle.prolly_text.specs.declared.lines.form.RecordForm.TheVariants.{Lines}
use Rattle.prolly_text.specs.declared.notation.Notation.{Notation}
use Rattle.prolly_tree.specs.Difference.{IsMap}
use Rattle.prolly_tree.specs.LookUp.{find}
use Rattle.prolly_tree.specs.lemmas.Maps.{Above, above_more, find_above}
use Rattle.prolly_answer.specs.KeyLookUps.{found_at, found_line, found_lines}
use Rattle.prolly_answer.specs.LookUps.{pair_lines}
use Rattle.prolly_answer.specs.SetLines.{FitsLeft, RisesIn, alone_lines, is_past, keys_left, keys_past}
use Rattle.prolly_answer.specs.SetLines.{left_at_first, left_behind, lines_at_end, lines_so_far}
use Rattle.prolly_answer.specs.SetLines.{more_lines}
use Rattle.prolly_answer.specs.SetProofs.{ShownKeysAreRight}
use Rattle.prolly_answer.proofs.DumpSteps.{written_append}

-- ---- where nothing was shown

pub past_none : (keys : List (List ℕ)) → keys_past [] keys ≡ []
past_none [] = refl
past_none (k ∷ ks) = past_none ks

pub left_none : (keys : List (List ℕ)) → keys_left [] keys ≡ keys
left_none [] = refl
left_none (k ∷ ks) = ap (λ l. k ∷ l) (left_none ks)

-- ---- one pair more

pub left_step : (p : Pair) (ps : List Pair) (keys : List (List ℕ)) →
    keys_left (p ∷ ps) keys ≡ keys_left ps (keys_above p.key keys)
left_step p ps [] = refl
left_step p ps (k ∷ ks) =
    go (is_lt (key_order p.key k)) refl (is_past ps k) refl (left_step p ps ks)
  where
    go : (b : Bool) → is_lt (key_order p.key k) ≡ b → (past : Bool) → is_past ps k ≡ past →
        keys_left (p ∷ ps) ks ≡ keys_left ps (keys_above p.key ks) →
        keys_left (p ∷ ps) (k ∷ ks) ≡ keys_left ps (keys_above p.key (k ∷ ks))
    go true e true o others = rw (e, o) others
    go true e false o others = rw (e, o) (ap (λ l. k ∷ l) others)
    go false e past o others = rw e others

past_step : (p : Pair) (ps : List Pair) (keys : List (List ℕ)) → Rising keys →
    keys_past (p ∷ ps) keys ≡ keys_up_to p.key keys ++ keys_past ps (keys_above p.key keys)
past_step p ps [] h = refl
past_step p ps (k ∷ ks) h =
    go (is_lt (key_order p.key k)) refl (is_past ps k) refl
    (past_step p ps ks (rising_tail k ks h))
  where
    go : (b : Bool) → is_lt (key_order p.key k) ≡ b → (past : Bool) → is_past ps k ≡ past →
        keys_past (p ∷ ps) ks ≡ keys_up_to p.key ks ++ keys_past ps (keys_above p.key ks) →
        keys_past (p ∷ ps) (k ∷ ks) ≡
        keys_up_to p.key (k ∷ ks) ++ keys_past ps (keys_above p.key (k ∷ ks))
    go true e past o others =
        let none = none_up_to p.key k ks (is_less (key_order p.key k) e) h in
        let here : keys_past (p ∷ ps) ks ≡ keys_past ps (keys_above p.key ks) =
        others ∙ ap (λ l. l ++ keys_past ps (keys_above p.key ks)) none in
        above past o e here none
      where
        above : (past : Bool) → is_past ps k ≡ past → is_lt (key_order p.key k) ≡ true →
            keys_past (p ∷ ps) ks ≡ keys_past ps (keys_above p.key ks) → keys_up_to p.key ks ≡ [] →
            keys_past (p ∷ ps) (k ∷ ks) ≡
            keys_up_to p.key (k ∷ ks) ++ keys_past ps (keys_above p.key (k ∷ ks))
        above true o e here none = rw (e, o, none) (ap (λ l. k ∷ l) here)
        above false o e here none = rw (e, o, none) here
    go false e past o others = rw e (ap (λ l. k ∷ l) others)

-- ---- what is found

-- keys of which each is not greater than this one, or each is
abbrev UpTo : List ℕ → List (List ℕ) → Type 0
UpTo key ks = AllByRecursion (λ k. is_lt (key_order key k) ≡ false) ks

abbrev AllAbove : List ℕ → List (List ℕ) → Type 0
AllAbove key ks = AllByRecursion (λ k. KeyBelow key k) ks

up_to_are : (key : List ℕ) (keys : List (List ℕ)) → UpTo key (keys_up_to key keys)
up_to_are key [] = tt
up_to_are key (k ∷ ks) = go (is_lt (key_order key k)) refl (up_to_are key ks)
  where
    go : (b : Bool) → is_lt (key_order key k) ≡ b → UpTo key (keys_up_to key ks) →
        UpTo key (keys_up_to key (k ∷ ks))
    go true e others = rw e others
    go false e others = rw e (e, others)

above_are : (key : List ℕ) (keys : List (List ℕ)) → AllAbove key (keys_above key keys)
above_are key [] = tt
above_are key (k ∷ ks) = go (is_lt (key_order key k)) refl (above_are key ks)
  where
    go : (b : Bool) → is_lt (key_order key k) ≡ b → AllAbove key (keys_above key ks) →
        AllAbove key (keys_above key (k ∷ ks))
    go true e others = rw e (is_less (key_order key k) e, others)
    go false e others = rw e others

kept_are : (P : List ℕ → Type 0) (test : List ℕ → Bool) (keys : List (List ℕ)) →
    AllByRecursion P keys → AllByRecursion P (filter test keys)
kept_are P test [] h = tt
kept_are P test (k ∷ ks) h = go (test k) refl (kept_are P test ks h.1)
  where
    go : (b : Bool) → test k ≡ b → AllByRecursion P (filter test ks) →
        AllByRecursion P (filter test (k ∷ ks))
    go true e others = rw e (h.0, others)
    go false e others = rw e others

-- at a key that is not greater than this one nothing is found behind it
found_none : (key k : List ℕ) (ps : List Pair) → is_lt (key_order key k) ≡ false → Above key ps →
    find ps k ≡ None
found_none key k ps up above = find_above ps k (go (key_order key k) refl up)
  where
    go : (o : Ordering) → key_order key k ≡ o → is_lt o ≡ false → Above k ps
    go Less e l = absurd (false≢true (sym l))
    go Equal e l = subst (λ x. Above x ps) (order_same key k e) above
    go Greater e l = above_more k key ps (greater_below key k e) above

found_up_to : (p : Pair) (ps : List Pair) (keys : List (List ℕ)) → Above p.key ps →
    UpTo p.key keys → found_at (p ∷ ps) keys ≡ found_at (p ∷ []) keys
found_up_to p ps [] above h = refl
found_up_to p ps (k ∷ ks) above h =
    go (is_eq (key_order p.key k)) refl (found_up_to p ps ks above h.1)
  where
    go : (b : Bool) → is_eq (key_order p.key k) ≡ b →
        found_at (p ∷ ps) ks ≡ found_at (p ∷ []) ks →
        found_at (p ∷ ps) (k ∷ ks) ≡ found_at (p ∷ []) (k ∷ ks)
    go true e others = rw (e, others) refl
    go false e others = rw (e, others, found_none p.key k ps h.0 above) refl

found_above : (p : Pair) (ps : List Pair) (keys : List (List ℕ)) → AllAbove p.key keys →
    found_at (p ∷ ps) keys ≡ found_at ps keys
found_above p ps [] h = refl
found_above p ps (k ∷ ks) h = rw (not_eq_below p.key k h.0, found_above p ps ks h.1) refl

module _ (p : Pair) (ps : List Pair) (keys : List (List ℕ)) (above : Above p.key ps)
    (h : Rising keys) where
  abbrev low : List (List ℕ)
  low = keys_up_to p.key keys

  abbrev high : List (List ℕ)
  high = keys_above p.key keys

  found_parts : (more : List (List ℕ)) → AllAbove p.key more →
      found_at (p ∷ ps) (low ++ more) ≡ found_at (p ∷ []) low ++ found_at ps more
  found_parts more k = map-append (λ key. record { key = key; value = find (p ∷ ps) key }) low more ∙
      ap (λ rs. rs ++ found_at (p ∷ ps) more)
      (found_up_to p ps low above (up_to_are p.key keys)) ∙
      ap (λ rs. found_at (p ∷ []) low ++ rs) (found_above p ps more k)

  pub found_past : found_at (p ∷ ps) (keys_past (p ∷ ps) keys) ≡
      found_at (p ∷ []) low ++ found_at ps (keys_past ps high)
  found_past = ap (found_at (p ∷ ps)) (past_step p ps keys h) ∙
      found_parts (keys_past ps high)
      (kept_are (λ k. KeyBelow p.key k) (is_past ps) high (above_are p.key keys))

  pub found_all : found_at (p ∷ ps) keys ≡ found_at (p ∷ []) low ++ found_at ps high
  found_all = ap (found_at (p ∷ ps)) (split_keys p.key keys h) ∙
      found_parts high (above_are p.key keys)

-- ---- pairs of some of the keys

some_above : (x : List ℕ) (p : Pair) (ps : List Pair) (keys : List (List ℕ)) → RisingFrom x keys →
    AreSomeOf (p ∷ ps) keys → KeyBelow x p.key
some_above x p ps [] h s = absurd s
some_above x p ps (k ∷ ks) h s = elim s [
  | inl same ↦ subst (KeyBelow x) (sym same.0) h.0
  | inr later ↦ order_trans x k p.key h.0 (some_above k p ps ks h.1 later)
]

pub some_step : (p : Pair) (ps : List Pair) (keys : List (List ℕ)) → Rising keys →
    AreSomeOf (p ∷ ps) keys → AreSomeOf ps (keys_above p.key keys)
some_step p ps [] h s = absurd s
some_step p ps (k ∷ ks) h s = elim s [
  | inl same ↦ subst (λ x. AreSomeOf ps (keys_above x (k ∷ ks))) (sym same.0)
      (rw (order_self k, all_behind k ks h) same.1)
  | inr later ↦ rw (below_greater k p.key (some_above k p ps ks h later))
      (some_step p ps ks (rising_tail k ks h) later)
]

pub some_one_of : (p : Pair) (ps : List Pair) (keys : List (List ℕ)) → AreSomeOf (p ∷ ps) keys →
    is_one_of keys p.key ≡ true
some_one_of p ps [] s = absurd s
some_one_of p ps (k ∷ ks) s = elim s [
  | inl same ↦ subst (λ x. is_one_of (k ∷ ks) x ≡ true) (sym same.0) (rw (order_self k) refl)
  | inr later ↦ or_true (is_eq (key_order k p.key)) (some_one_of p ps ks later)
]
  where
    or_true : (b : Bool) {c : Bool} → c ≡ true → b || c ≡ true
    or_true true e = refl
    or_true false e = e

some_all : (P : List ℕ → Type 0) (ps : List Pair) (keys : List (List ℕ)) → AreSomeOf ps keys →
    AllByRecursion P keys → AllByRecursion (λ p. P p.key) ps
some_all P [] keys s h = tt
some_all P (p ∷ ps) [] s h = absurd s
some_all P (p ∷ ps) (k ∷ ks) s h = elim s [
  | inl same ↦ (subst P (sym same.0) h.0, some_all P ps ks same.1 h.1)
  | inr later ↦ some_all P (p ∷ ps) ks later h.1
]

pub some_rise : (p : Pair) (ps : List Pair) (keys : List (List ℕ)) → Rising keys →
    AreSomeOf (p ∷ ps) keys → Above p.key ps
some_rise p ps keys h s = some_all (λ k. KeyBelow p.key k) ps (keys_above p.key keys)
    (some_step p ps keys h s) (above_are p.key keys)

-- ---- more pairs

pub left_rises : (ps : List Pair) (keys : List (List ℕ)) → Rising keys → Rising (keys_left ps keys)
left_rises [] keys h = subst Rising (sym (left_none keys)) h
left_rises (p ∷ ps) keys h = subst Rising (sym (left_step p ps keys))
    (left_rises ps (keys_above p.key keys) (rising_above p.key keys h))

some_left : (ps qs : List Pair) (keys : List (List ℕ)) → Rising keys → AreSomeOf (ps ++ qs) keys →
    AreSomeOf qs (keys_left ps keys)
some_left [] qs keys h s = subst (AreSomeOf qs) (sym (left_none keys)) s
some_left (p ∷ ps) qs keys h s = subst (AreSomeOf qs) (sym (left_step p ps keys))
    (some_left ps qs (keys_above p.key keys) (rising_above p.key keys h)
    (some_step p (ps ++ qs) keys h s))

left_more : (ps qs : List Pair) (keys : List (List ℕ)) →
    keys_left (ps ++ qs) keys ≡ keys_left qs (keys_left ps keys)
left_more [] qs keys = ap (keys_left qs) (sym (left_none keys))
left_more (p ∷ ps) qs keys = left_step p (ps ++ qs) keys ∙
    left_more ps qs (keys_above p.key keys) ∙ ap (keys_left qs) (sym (left_step p ps keys))

found_more : (ps qs : List Pair) (keys : List (List ℕ)) → Rising keys →
    AreSomeOf (ps ++ qs) keys → found_at (ps ++ qs) (keys_past (ps ++ qs) keys) ≡
    found_at ps (keys_past ps keys) ++ found_at qs (keys_past qs (keys_left ps keys))
found_more [] qs keys h s =
    ap (λ ks. found_at qs (keys_past qs ks)) (sym (left_none keys)) ∙
    ap (λ ks. found_at [] ks ++ found_at qs (keys_past qs (keys_left [] keys)))
    (sym (past_none keys))
found_more (p ∷ ps) qs keys h s =
    let low = keys_up_to p.key keys in
    let high = keys_above p.key keys in
    let above = some_rise p (ps ++ qs) keys h s in
    let own = found_at (p ∷ []) low in
    let front = found_at ps (keys_past ps high) in
    found_past p (ps ++ qs) keys above h ∙
    ap (λ rs. own ++ rs) (found_more ps qs high (rising_above p.key keys h)
    (some_step p (ps ++ qs) keys h s)) ∙
    sym (append_assoc own front (found_at qs (keys_past qs (keys_left ps high)))) ∙
    ap (λ rs. rs ++ found_at qs (keys_past qs (keys_left ps high)))
    (sym (found_past p ps keys (all_front (λ q. KeyBelow p.key q.key) ps qs above) h)) ∙
    ap (λ ks. found_at (p ∷ ps) (keys_past (p ∷ ps) keys) ++ found_at qs (keys_past qs ks))
    (sym (left_step p ps keys))

found_at_end : (ps : List Pair) (keys : List (List ℕ)) → Rising keys → AreSomeOf ps keys →
    found_at ps keys ≡ found_at ps (keys_past ps keys) ++ found_at [] (keys_left ps keys)
found_at_end [] keys h s =
    ap (found_at []) (sym (left_none keys)) ∙
    ap (λ ks. found_at [] ks ++ found_at [] (keys_left [] keys)) (sym (past_none keys))
found_at_end (p ∷ ps) keys h s =
    let low = keys_up_to p.key keys in
    let high = keys_above p.key keys in
    let above = some_rise p ps keys h s in
    let own = found_at (p ∷ []) low in
    let front = found_at ps (keys_past ps high) in
    found_all p ps keys above h ∙
    ap (λ rs. own ++ rs) (found_at_end ps high (rising_above p.key keys h)
    (some_step p ps keys h s)) ∙
    sym (append_assoc own front (found_at [] (keys_left ps high))) ∙
    ap (λ rs. rs ++ found_at [] (keys_left ps high)) (sym (found_past p ps keys above h)) ∙
    ap (λ ks. found_at (p ∷ ps) (keys_past (p ∷ ps) keys) ++ found_at [] ks)
    (sym (left_step p ps keys))

-- ---- the lines of a set

-- the pairs are of some of the keys of a list, in their order
abbrev pub SomeOfSet : KeySet → List Pair → Type 0
SomeOfSet (Range from to) pairs = Unit {0}
SomeOfSet (Keys keys) pairs = AreSomeOf pairs keys

-- these keys are left when these pairs were shown
abbrev pub IsLeft : KeySet → List Pair → List (List ℕ) → Type 0
IsLeft (Range from to) pairs left = left ≡ []
IsLeft (Keys keys) pairs left = left ≡ keys_left pairs keys

module _ (notation : Notation) where
  pub lines_of_none : (set : KeySet) → lines_so_far notation set [] ≡ []
  lines_of_none (Range from to) = refl
  lines_of_none (Keys keys) = ap (λ ks. found_lines notation (found_at [] ks)) (past_none keys)

  pub lines_more : (set : KeySet) (pairs shown : List Pair) (left : List (List ℕ)) → RisesIn set →
      SomeOfSet set (pairs ++ shown) → IsLeft set pairs left →
      lines_so_far notation set (pairs ++ shown) ≡
      lines_so_far notation set pairs ++ more_lines notation set left shown
  lines_more (Range from to) pairs shown left h s is =
      written_append (Lines notation) pairs shown
  lines_more (Keys keys) pairs shown left h s is =
      ap (found_lines notation) (found_more pairs shown keys h s) ∙
      flat_map-append (found_line notation) (found_at pairs (keys_past pairs keys))
      (found_at shown (keys_past shown (keys_left pairs keys))) ∙
      ap (λ ks. lines_so_far notation (Keys keys) pairs ++
      found_lines notation (found_at shown (keys_past shown ks))) (sym is)

  pub lines_ended : (set : KeySet) (pairs : List Pair) (left : List (List ℕ)) → RisesIn set →
      SomeOfSet set pairs → IsLeft set pairs left →
      lines_at_end notation set pairs ≡
      lines_so_far notation set pairs ++ alone_lines notation left
  lines_ended (Range from to) pairs left h s is =
      sym (append-nil (pair_lines notation pairs)) ∙
      ap (λ ks. pair_lines notation pairs ++ alone_lines notation ks) (sym is)
  lines_ended (Keys keys) pairs left h s is =
      ap (found_lines notation) (found_at_end pairs keys h s) ∙
      flat_map-append (found_line notation) (found_at pairs (keys_past pairs keys))
      (found_at [] (keys_left pairs keys)) ∙
      ap (λ ks. lines_so_far notation (Keys keys) pairs ++ alone_lines notation ks) (sym is)

pub left_begins : (set : KeySet) → IsLeft set [] (left_at_first set)
left_begins (Range from to) = refl
left_begins (Keys keys) = sym (left_none keys)

pub left_goes_on : (set : KeySet) (pairs shown : List Pair) (left : List (List ℕ)) →
    IsLeft set pairs left → IsLeft set (pairs ++ shown) (left_behind set left shown)
left_goes_on (Range from to) pairs shown left is = is
left_goes_on (Keys keys) pairs shown left is =
    ap (keys_left shown) is ∙ sym (left_more pairs shown keys)

pub left_fits : (set : KeySet) (pairs shown : List Pair) (left : List (List ℕ)) → RisesIn set →
    SomeOfSet set (pairs ++ shown) → IsLeft set pairs left → FitsLeft set left shown
left_fits (Range from to) pairs shown left h s is = tt
left_fits (Keys keys) pairs shown left h s is = (
  subst Rising (sym is) (left_rises pairs keys h),
  subst (AreSomeOf shown) (sym is) (some_left pairs shown keys h s),
)

-- what was shown of a list is of its keys, in their order
pub some_of_set : ShownInOrder → (version : Version) (root : List ℕ) (set : KeySet)
    (chunks : List (List ℕ)) (pairs : List Pair) (due : List Due) → RisesIn set →
    AreTaken version (root_due root set ∷ []) chunks pairs due → SomeOfSet set pairs
some_of_set order version root (Range from to) chunks pairs due h taken = tt
some_of_set order version root (Keys keys) chunks pairs due h taken =
    order version root keys chunks pairs due h taken

-- ---- what is right

found_same : (m pairs : List Pair) (keys : List (List ℕ)) →
    AllByRecursion (λ k. find pairs k ≡ find m k) keys → found_at pairs keys ≡ found_at m keys
found_same m pairs [] h = refl
found_same m pairs (k ∷ ks) h = rw (h.0, found_same m pairs ks h.1) refl

are_of_self : (keys : List (List ℕ)) → AllByRecursion (λ k. is_one_of keys k ≡ true) keys
are_of_self [] = tt
are_of_self (k ∷ ks) = (rw (order_self k) refl, more ks (are_of_self ks))
  where
    or_true : (b : Bool) {c : Bool} → c ≡ true → b || c ≡ true
    or_true true e = refl
    or_true false e = e

    more : (xs : List (List ℕ)) → AllByRecursion (λ x. is_one_of ks x ≡ true) xs →
        AllByRecursion (λ x. is_one_of (k ∷ ks) x ≡ true) xs
    more [] h = tt
    more (x ∷ xs) h = (or_true (is_eq (key_order k x)) h.0, more xs h.1)

module _ (found : KeysAreFound) (m pairs more : List Pair) (keys : List (List ℕ)) (rising : IsMap m)
    (is : pairs_wanted (Keys keys) m ≡ pairs ++ more) where
  abbrev AreFound : List (List ℕ) → Type 0
  AreFound xs = AllByRecursion (λ k. find pairs k ≡ find m k) xs

  past_are_found : (xs : List (List ℕ)) → AllByRecursion (λ k. is_one_of keys k ≡ true) xs →
      AreFound (keys_past pairs xs)
  past_are_found [] h = tt
  past_are_found (k ∷ ks) h = go (is_past pairs k) refl (past_are_found ks h.1)
    where
      go : (b : Bool) → is_past pairs k ≡ b → AreFound (keys_past pairs ks) →
          AreFound (keys_past pairs (k ∷ ks))
      go true e others =
          rw e (found (Keys keys) m pairs more k rising is h.0 (inl e), others)
      go false e others = rw e others

  all_are_found : more ≡ [] → (xs : List (List ℕ)) →
      AllByRecursion (λ k. is_one_of keys k ≡ true) xs → AreFound xs
  all_are_found none [] h = tt
  all_are_found none (k ∷ ks) h =
      (found (Keys keys) m pairs more k rising is h.0 (inr none), all_are_found none ks h.1)

pub shown_keys_are_right : TakenAreRight → KeysAreFound → ShownKeysAreRight
shown_keys_are_right right found version bits m keys chunks pairs due rising lawful taken =
    elim (right version bits m (Keys keys) chunks pairs due rising lawful taken) [
      | inl first ↦ inl (record {
        past = found_same m pairs (keys_past pairs keys)
            (past_are_found found m pairs first.more_pairs keys rising first.pairs_are keys
            (are_of_self keys));
        all = λ e. found_same m pairs keys (all_are_found found m pairs first.more_pairs keys rising
            first.pairs_are (first.all e).0 keys (are_of_self keys));
      })
      | inr clash ↦ inr clash
    ]
