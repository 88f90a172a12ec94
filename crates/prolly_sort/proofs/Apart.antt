-- Records of which no two have one key.
use Rattle.std.proofs.Common.{◌≡◌, ℕ, zero, suc, ◌<◌, ◌≤◌, Bool, true, false, cond, List, [], ◌∷◌, filter}
use Rattle.std.proofs.Common.{length, get_or, map, None, refl, sym, ap, ◌∙◌, subst, arith}
use Rattle.std.specs.List.Sorted.{IsStableBy}
use Rattle.std.specs.Ordering.{is_eq}
use Rattle.prolly_entry.specs.Keys.{Rising, key_order}
use Rattle.prolly_entry.specs.Record.{Record, keys_of}
use Rattle.prolly_entry.specs.lemmas.Orders.{eq_true, not_eq_above, order_same, order_self}
use Rattle.prolly_entry.specs.lemmas.RisingRecords.{AllAbove, IsRising, is_rising}
use Rattle.prolly_sort.specs.declared.place.Place.{Place}
use Rattle.prolly_sort.specs.Place.{SamePlaces, is_below, records_in, unranked}
use Rattle.prolly_sort.specs.Run.{AreDoubled}
use Rattle.prolly_sort.proofs.Coming.{has}
use Rattle.prolly_sort.proofs.Sorting.{same_of_key}

-- ---- of a key there is at most one record among those that rise

none_above : (key : List ℕ) (records : List Record) → AllAbove key records →
    filter (has key) records ≡ []
none_above key [] h = refl
none_above key (r ∷ records) h =
    ap (λ b. cond b (r ∷ filter (has key) records) (filter (has key) records))
    (not_eq_above key r.key h.0) ∙ none_above key records h.1

-- Of records that rise at most one has the key.
pub one_at_most : (key : List ℕ) (records : List Record) → IsRising records →
    length (filter (has key) records) ≤ 1
one_at_most key [] h = omega arith
one_at_most key (r ∷ records) h = go (has key r) refl (one_at_most key records h.1)
  where
    go : (b : Bool) → has key r ≡ b → length (filter (has key) records) ≤ 1 →
        length (cond b (r ∷ filter (has key) records) (filter (has key) records)) ≤ 1
    go true e few = omega (
      arith,
      ap length (none_above key records
          (subst (λ k. AllAbove k records) (order_same r.key key (eq_true (key_order r.key key) e)) h.0)),
    )
    go false e few = few

-- ---- two that pass are two that are kept

some_kept : (f : Record → Bool) (records : List Record) (j : ℕ) (d : Record) → j < length records →
    f (get_or records j d) ≡ true → 1 ≤ length (filter f records)
some_kept f [] j d l e = absurd (omega (arith, l))
some_kept f (r ∷ records) zero d l e =
    let kept = ap (λ b. length (cond b (r ∷ filter f records) (filter f records))) e in
    omega (arith, kept)
some_kept f (r ∷ records) (suc j) d l e = go (f r) (some_kept f records j d (omega (arith, l)) e)
  where
    go : (b : Bool) → 1 ≤ length (filter f records) →
        1 ≤ length (cond b (r ∷ filter f records) (filter f records))
    go true k = omega arith
    go false k = k

two_kept : (f : Record → Bool) (records : List Record) (i j : ℕ) (d : Record) → i < j →
    j < length records → f (get_or records i d) ≡ true → f (get_or records j d) ≡ true →
    2 ≤ length (filter f records)
two_kept f [] i j d o l e k = absurd (omega (arith, l))
two_kept f (r ∷ records) i zero d o l e k = absurd (omega (arith, o))
two_kept f (r ∷ records) zero (suc j) d o l e k =
    let kept = ap (λ b. length (cond b (r ∷ filter f records) (filter f records))) e in
    let more = some_kept f records j d (omega (arith, l)) k in
    omega (arith, kept, more)
two_kept f (r ∷ records) (suc i) (suc j) d o l e k =
    go (f r) (two_kept f records i j d (omega (arith, o)) (omega (arith, l)) e k)
  where
    go : (b : Bool) → 2 ≤ length (filter f records) →
        2 ≤ length (cond b (r ∷ filter f records) (filter f records))
    go true m = omega arith
    go false m = m

-- Where of each key there is at most one record, no two records have one key.
pub apart : (records : List Record) (i j : ℕ) → AreDoubled records i j →
    ((key : List ℕ) → length (filter (has key) records) ≤ 1) → ⊥
apart records i j two few =
    let d : Record = record { key = []; value = None } in
    let key = (get_or records i d).key in
    let second : has key (get_or records j d) ≡ true =
    ap (λ k. is_eq (key_order k key)) (sym (two.same d)) ∙ ap is_eq (order_self key) in
    let many = two_kept (has key) records i j d two.order two.within (ap is_eq (order_self key)) second in
    omega (arith, many, few key)

-- Where keys rise, no two records have one key.
pub rising_apart : (records : List Record) (i j : ℕ) → Rising (keys_of records) →
    AreDoubled records i j → ⊥
rising_apart records i j h two = apart records i j two
    (λ key. one_at_most key records (is_rising records h))

-- Where they rise once the places are sorted, no two records have one key.
pub sorted_apart : (bytes : List ℕ) (xs ys : List Place) (i j : ℕ) → SamePlaces xs ys →
    IsStableBy (is_below bytes) (map unranked xs) (map unranked ys) →
    Rising (keys_of (records_in bytes ys)) → AreDoubled (records_in bytes xs) i j → ⊥
sorted_apart bytes xs ys i j same stable h two = apart (records_in bytes xs) i j two (λ key.
    subst (λ rs. length rs ≤ 1) (same_of_key bytes xs ys same stable key)
    (one_at_most key (records_in bytes ys) (is_rising (records_in bytes ys) h)))
