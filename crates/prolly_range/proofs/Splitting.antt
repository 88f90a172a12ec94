-- Where a list of keys that rise is split, and where a list ceases to rise.
use Rattle.std.proofs.Common.{◌≡◌, ◌||◌, ◌⊎◌, ℕ, zero, suc, ◌+◌, ◌-◌, ◌<◌, ◌≤◌, inl, inr, List, [], ◌∷◌, length, map, refl, arith}
use Rattle.std.proofs.Common.{sym, ap, ◌∙◌, subst, Bool, true, false, not, Ordering, take, drop, get_or}
use Rattle.std.proofs.Common.{Some, None, slice_get}
use Rattle.std.proofs.lemmas.Bool.{cases_lt, false≢true}
use Rattle.std.proofs.lemmas.List.{get_or-take, get_or_default, length-map, length-take-le, take-map}
use Rattle.std.proofs.lemmas.Map.Views.{any-filter_same}
use Rattle.std.specs.List.{AllByRecursion, AllWithin, filter}
use Rattle.std.specs.List.Sorted.{IsPartitionedBy}
use Rattle.std.specs.Ordering.{is_eq, is_lt}
use Rattle.std.specs.declared.cmp.Ordering.TheVariants.{Less, Equal, Greater}
use Rattle.prolly_entry.specs.Keys.{KeyBelow, Rising, RisingFrom, key_order}
use Rattle.prolly_entry.specs.lemmas.Orders.{below_greater, eq_true, greater_below, not_eq_below, order_same, order_self, order_trans}
use Rattle.prolly_range.specs.SortedKeys.{FallsFirst, is_one_of, keys_above, keys_up_to}

-- the key is not greater than this one
abbrev pub IsUpTo : List ℕ → List ℕ → Type 0
IsUpTo key k = is_lt (key_order key k) ≡ false

is_less : (o : Ordering) → is_lt o ≡ true → o ≡ Less
is_less Less e = refl
is_less Equal e = absurd (false≢true e)
is_less Greater e = absurd (false≢true e)

-- a key below one that is not greater than a third is below the third
below_up_to : (x y key : List ℕ) → KeyBelow x y → IsUpTo key y → KeyBelow x key
below_up_to x y key h k = go (key_order key y) refl k
  where
    go : (o : Ordering) → key_order key y ≡ o → is_lt o ≡ false → KeyBelow x key
    go Less e l = absurd (false≢true (sym l))
    go Equal e l = subst (KeyBelow x) (sym (order_same key y e)) h
    go Greater e l = order_trans x y key h (greater_below key y e)

-- what a filter leaves passes its test
pub all_up_to : (key : List ℕ) (keys : List (List ℕ)) →
    AllByRecursion (IsUpTo key) (keys_up_to key keys)
all_up_to key [] = tt
all_up_to key (k ∷ ks) = go (is_lt (key_order key k)) refl (all_up_to key ks)
  where
    go : (b : Bool) → is_lt (key_order key k) ≡ b →
        AllByRecursion (IsUpTo key) (keys_up_to key ks) →
        AllByRecursion (IsUpTo key) (keys_up_to key (k ∷ ks))
    go true e h = rw e h
    go false e h = rw e (e, h)

-- a key that is not greater than this one is of a list where it is of the keys there that are not
pub one_up_to : (key greatest : List ℕ) → (key ≡ greatest) ⊎ KeyBelow key greatest →
    (keys : List (List ℕ)) → is_one_of keys key ≡ is_one_of (keys_up_to greatest keys) key
one_up_to key greatest h keys = sym (any-filter_same (λ k. is_eq (key_order k key))
    (λ k. not (is_lt (key_order greatest k))) true (λ k e.
    subst (λ k. not (is_lt (key_order greatest k)) ≡ true)
    (sym (order_same k key (eq_true (key_order k key) e))) (up_to h)) keys)
  where
    up_to : (key ≡ greatest) ⊎ KeyBelow key greatest → not (is_lt (key_order greatest key)) ≡ true
    up_to (inl e) = subst (λ g. not (is_lt (key_order g key)) ≡ true) e
        (ap (λ o. not (is_lt o)) (order_self key))
    up_to (inr below) = ap (λ o. not (is_lt o)) (below_greater key greatest below)

-- and a key that is greater where it is of those that are
pub one_above : (key least : List ℕ) → KeyBelow least key → (keys : List (List ℕ)) →
    is_one_of keys key ≡ is_one_of (keys_above least keys) key
one_above key least h keys = sym (any-filter_same (λ k. is_eq (key_order k key))
    (λ k. is_lt (key_order least k)) true (λ k e.
    subst (λ k. is_lt (key_order least k) ≡ true)
    (sym (order_same k key (eq_true (key_order k key) e))) (ap is_lt h)) keys)

module _ {X : Type 0} (f : X → List ℕ) where
  rising_behind : (x : List ℕ) (xs : List X) → RisingFrom x (map f xs) → Rising (map f xs)
  rising_behind x [] h = tt
  rising_behind x (y ∷ ys) h = h.1

  -- ---- one key, and one behind it

  from_below : (x : X) (xs : List X) (j : ℕ) (d : X) → RisingFrom (f x) (map f xs) → j < length xs →
      KeyBelow (f x) (f (get_or xs j d))
  from_below x [] j d h lt = absurd (omega arith)
  from_below x (y ∷ xs) zero d h lt = h.0
  from_below x (y ∷ xs) (suc j) d h lt = order_trans (f x) (f y) (f (get_or xs j d)) h.0
      (from_below y xs j d h.1 (omega arith))

  pub pair_below : (xs : List X) (i j : ℕ) (d : X) → Rising (map f xs) → i < j → j < length xs →
      KeyBelow (f (get_or xs i d)) (f (get_or xs j d))
  pair_below [] i j d h lt in' = absurd (omega arith)
  pair_below (x ∷ xs) i zero d h lt in' = absurd (omega arith)
  pair_below (x ∷ xs) zero (suc j) d h lt in' = from_below x xs j d h (omega arith)
  pair_below (x ∷ xs) (suc i) (suc j) d h lt in' =
      pair_below xs i j d (rising_behind (f x) xs h) (omega arith) (omega arith)

  -- ---- where it is split

  pub partitioned : (xs : List X) (key : List ℕ) → Rising (map f xs) →
      IsPartitionedBy (λ x. not (is_lt (key_order key (f x)))) xs
  partitioned xs key h i j d le in' e = elim (cases_lt i j) [
    | inl lt ↦ go (key_order key (f (get_or xs i d))) refl (pair_below xs i j d h lt in')
    | inr ge ↦
        let same : j ≡ i = omega arith in
        subst (λ n. not (is_lt (key_order key (f (get_or xs n d)))) ≡ true) same e
  ]
    where
      go : (o : Ordering) → key_order key (f (get_or xs i d)) ≡ o →
          KeyBelow (f (get_or xs i d)) (f (get_or xs j d)) → not (is_lt o) ≡ true
      go Less is below = absurd (false≢true (ap (λ o. not (is_lt o))
          (sym (order_trans key (f (get_or xs i d)) (f (get_or xs j d)) is below)) ∙ e))
      go Equal is below = refl
      go Greater is below = refl

  pub filter_front : (p : List ℕ → Bool) (xs : List X) (n : ℕ) →
      AllWithin (λ x. p (f x) ≡ true) xs 0 n → AllWithin (λ x. p (f x) ≡ false) xs n (length xs) →
      n ≤ length xs → filter p (map f xs) ≡ map f (take n xs)
  filter_front p [] zero h k le = refl
  filter_front p [] (suc n) h k le = absurd (omega arith)
  filter_front p (x ∷ xs) zero h k le = rw (k 0 x (omega arith) (omega arith))
      (filter_front p xs zero (λ i d lo hi. absurd (omega arith))
      (λ i d lo hi. k (suc i) d (omega arith) (omega arith)) (omega arith))
  filter_front p (x ∷ xs) (suc n) h k le = rw (h 0 x (omega arith) (omega arith))
      (ap (λ ks. f x ∷ ks) (filter_front p xs n
      (λ i d lo hi. h (suc i) d (omega arith) (omega arith))
      (λ i d lo hi. k (suc i) d (omega arith) (omega arith)) (omega arith)))

  pub filter_back : (p : List ℕ → Bool) (xs : List X) (n : ℕ) →
      AllWithin (λ x. p (f x) ≡ false) xs 0 n → AllWithin (λ x. p (f x) ≡ true) xs n (length xs) →
      n ≤ length xs → filter p (map f xs) ≡ map f (drop n xs)
  filter_back p [] zero h k le = refl
  filter_back p [] (suc n) h k le = absurd (omega arith)
  filter_back p (x ∷ xs) zero h k le = rw (k 0 x (omega arith) (omega arith))
      (ap (λ ks. f x ∷ ks) (filter_back p xs zero (λ i d lo hi. absurd (omega arith))
      (λ i d lo hi. k (suc i) d (omega arith) (omega arith)) (omega arith)))
  filter_back p (x ∷ xs) (suc n) h k le = rw (h 0 x (omega arith) (omega arith))
      (filter_back p xs n
      (λ i d lo hi. h (suc i) d (omega arith) (omega arith))
      (λ i d lo hi. k (suc i) d (omega arith) (omega arith)) (omega arith))

  from_take : (x : List ℕ) (xs : List X) (n : ℕ) → RisingFrom x (map f xs) →
      RisingFrom x (map f (take n xs))
  from_take x xs zero h = tt
  from_take x [] (suc n) h = tt
  from_take x (y ∷ ys) (suc n) h = (h.0, from_take (f y) ys n h.1)

  pub rising_take : (xs : List X) (n : ℕ) → Rising (map f xs) → Rising (map f (take n xs))
  rising_take xs zero h = tt
  rising_take [] (suc n) h = tt
  rising_take (x ∷ xs) (suc n) h = from_take (f x) xs n h

  pub rising_drop : (xs : List X) (n : ℕ) → Rising (map f xs) → Rising (map f (drop n xs))
  rising_drop xs zero h = h
  rising_drop [] (suc n) h = tt
  rising_drop (x ∷ xs) (suc n) h = rising_drop xs n (rising_behind (f x) xs h)

  -- ---- the last one of those that are not greater than a key

  pub has_none : (key : List ℕ) (xs : List X) → slice_get xs (length xs - 1) ≡ None →
      is_one_of (map f xs) key ≡ false
  has_none key [] e = refl
  has_none key (x ∷ xs) e = absurd (there (x ∷ xs) (length (x ∷ xs) - 1) (omega arith) e)
    where
      there : (xs : List X) (n : ℕ) → n < length xs → slice_get xs n ≡ None → ⊥
      there [] n within e = omega arith
      there (x ∷ xs) zero within e = cc
      there (x ∷ xs) (suc n) within e = there xs n (omega arith) e

  pub has_last : (key : List ℕ) (xs : List X) (last : X) → slice_get xs (length xs - 1) ≡ Some last →
      Rising (map f xs) → AllByRecursion (IsUpTo key) (map f xs) →
      is_one_of (map f xs) key ≡ is_eq (key_order (f last) key)
  has_last key [] last is h k = absurd cc
  has_last key (x ∷ []) last is h k =
      or_false (is_eq (key_order (f x) key)) ∙
      ap (λ l. is_eq (key_order (f l) key)) (same x last is)
    where
      or_false : (b : Bool) → b || false ≡ b
      or_false true = refl
      or_false false = refl

      same : (x y : X) → Some x ≡ Some y → x ≡ y
      same x y e = cc
  has_last key (x ∷ y ∷ ys) last is h k =
      let n : length (x ∷ y ∷ ys) - 1 ≡ suc (length (y ∷ ys) - 1) = omega arith in
      rw (not_eq_below (f x) key (below_up_to (f x) (f y) key h.0 k.1.0))
      (has_last key (y ∷ ys) last
      (subst (λ n. slice_get (x ∷ y ∷ ys) n ≡ Some last) n is) h.1 k.1)

  -- ---- where it ceases to rise

  from_more : (x : X) (xs : List X) (i : ℕ) (d : X) → i < length xs →
      RisingFrom (f x) (map f (take i xs)) →
      KeyBelow (f (get_or (x ∷ xs) i d)) (f (get_or xs i d)) →
      RisingFrom (f x) (map f (take (suc i) xs))
  from_more x [] i d lt h b = absurd (omega arith)
  from_more x (y ∷ ys) zero d lt h b = (b, tt)
  from_more x (y ∷ ys) (suc i) d lt h b = (h.0, from_more y ys i d (omega arith) h.1 b)

  pub rising_more : (xs : List X) (n : ℕ) (d : X) → 0 < n → n < length xs →
      Rising (map f (take n xs)) → KeyBelow (f (get_or xs (n - 1) d)) (f (get_or xs n d)) →
      Rising (map f (take (suc n) xs))
  rising_more [] n d some lt h b = absurd (omega arith)
  rising_more (x ∷ xs) zero d some lt h b = absurd (omega arith)
  rising_more (x ∷ xs) (suc i) d some lt h b =
      let e : suc i - 1 ≡ i = omega arith in
      from_more x xs i d (omega arith) h
      (subst (λ n. KeyBelow (f (get_or (x ∷ xs) n d)) (f (get_or xs i d))) e b)

  pub rising_step : (xs : List X) (n : ℕ) (d : X) → 0 < n → n < length xs →
      Rising (map f (take (suc n) xs)) → KeyBelow (f (get_or xs (n - 1) d)) (f (get_or xs n d))
  rising_step xs n d some lt h =
      let b : KeyBelow (f (get_or (take (suc n) xs) (n - 1) d)) (f (get_or (take (suc n) xs) n d)) =
      pair_below (take (suc n) xs) (n - 1) n d h (omega arith)
      (omega (arith, length-take-le (suc n) xs (omega arith))) in
      rw (get_or-take (suc n) xs (n - 1) d (omega arith), get_or-take (suc n) xs n d (omega arith)) at b

  module _ (xs : List X) (n : ℕ) (a b : X) (some : 0 < n) (within : n < length xs)
      (first : a ≡ get_or xs (n - 1) a) (second : b ≡ get_or xs n b)
      (rising : Rising (map f (take n xs))) where
    same_second : get_or xs n a ≡ b
    same_second = get_or_default xs n a b within ∙ sym second

    pub goes_on : is_lt (key_order (f a) (f b)) ≡ true → Rising (map f (take (n + 1) xs))
    goes_on lt =
        let below : KeyBelow (f a) (f b) = is_less (key_order (f a) (f b)) lt in
        let more : n + 1 ≡ suc n = omega arith in
        rw more (rising_more xs n a some within rising
        (subst (λ x. KeyBelow (f x) (f (get_or xs n a))) first
        (subst (λ x. KeyBelow (f a) (f x)) (sym same_second) below)))

    pub falls_there : is_lt (key_order (f a) (f b)) ≡ false → FallsFirst (map f xs) n
    falls_there not_lt = record {
      within = omega (arith, length-map xs f);
      before = subst Rising (sym (take-map f n xs)) rising;
      falls = λ h.
          let below : KeyBelow (f (get_or xs (n - 1) a)) (f (get_or xs n a)) =
          rising_step xs n a some within (subst Rising (take-map f (suc n) xs) h) in
          let here : KeyBelow (f a) (f b) =
          subst (λ x. KeyBelow (f a) (f x)) same_second
          (subst (λ x. KeyBelow (f x) (f (get_or xs n a))) (sym first) below) in
          false≢true (sym not_lt ∙ ap is_lt here);
    }
