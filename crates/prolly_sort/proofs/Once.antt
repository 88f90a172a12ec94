-- Records of which each key comes once.
use Rattle.std.proofs.Common.{◌≡◌, ℕ, zero, suc, ◌+◌, ◌≤◌, ◌<◌, Bool, true, false, cond, List, [], ◌∷◌}
use Rattle.std.proofs.Common.{◌++◌, Option, Some, None, length, filter, map, flat_map, get_or}
use Rattle.std.proofs.Common.{length-append, refl, sym, ap, ◌∙◌, subst, arith}
use Rattle.std.proofs.lemmas.List.Elements.{filter-append}
use Rattle.std.specs.List.{AllByRecursion}
use Rattle.prolly_entry.specs.Keys.{key_order, Rising}
use Rattle.prolly_entry.specs.Overlay.{AllRising, change_of, last_change_of, or_else}
use Rattle.prolly_entry.specs.Record.{Record, keys_of}
use Rattle.prolly_entry.specs.lemmas.Orders.{eq_true, order_same}
use Rattle.prolly_entry.specs.lemmas.RisingRecords.{is_rising}
use Rattle.prolly_merge.specs.Unique.{AreApart, all_in, records_with}
use Rattle.prolly_sort.specs.declared.key_rule.KeyRule.{KeyRule}
use Rattle.prolly_sort.specs.declared.key_rule.KeyRule.TheVariants.{LastCounts, Unique}
use Rattle.prolly_sort.specs.Overlaid.{overlaid, singles}
use Rattle.prolly_sort.specs.Run.{AreDoubled}
use Rattle.prolly_sort.specs.Told.{ComesOnce, Obeys}
use Rattle.prolly_sort.proofs.Apart.{one_at_most}
use Rattle.prolly_sort.proofs.Coming.{flat_singles, found, has, overlaid_rises}

-- How many of the records have the key.
abbrev pub count_of : List ℕ → List Record → ℕ
count_of key records = length (records_with key records)

count_both : (key : List ℕ) (xs ys : List Record) →
    count_of key (xs ++ ys) ≡ count_of key xs + count_of key ys
count_both key xs ys = ap length (filter-append (has key) xs ys) ∙
    length-append (records_with key xs) (records_with key ys)

-- ---- of a key of which nothing is said there is no record

neither : {A : Type 0} (x y : Option A) → or_else x y ≡ None → (x ≡ None) × (y ≡ None)
neither None y e = (refl, e)
neither (Some x) y e = absurd (some_none e)
  where
    some_none : Some x ≡ None → ⊥
    some_none f = cc

not_said : (key : List ℕ) (records : List Record) → change_of records key ≡ None →
    count_of key records ≡ 0
not_said key [] e = refl
not_said key (r ∷ records) e = go (has key r) e (not_said key records)
  where
    go : (b : Bool) → cond b (Some r.value) (change_of records key) ≡ None →
        (change_of records key ≡ None → count_of key records ≡ 0) →
        length (cond b (r ∷ filter (has key) records) (filter (has key) records)) ≡ 0
    go true f rest = absurd (some_none f)
      where
        some_none : Some r.value ≡ None → ⊥
        some_none f = cc
    go false f rest = rest f

not_last_said : (key : List ℕ) (lists : List (List Record)) → last_change_of lists key ≡ None →
    count_of key (all_in lists) ≡ 0
not_last_said key [] e = refl
not_last_said key (records ∷ lists) e =
    let both = neither (last_change_of lists key) (change_of records key) e in
    omega (
      arith,
      count_both key records (all_in lists),
      not_said key records both.1,
      not_last_said key lists both.0,
    )

-- Of a key of which there is no record nothing is said.
none_there : (key : List ℕ) (records : List Record) → count_of key records ≡ 0 →
    change_of records key ≡ None
none_there key [] e = refl
none_there key (r ∷ records) e = go (has key r) e (none_there key records)
  where
    go : (b : Bool) →
        length (cond b (r ∷ filter (has key) records) (filter (has key) records)) ≡ 0 →
        (count_of key records ≡ 0 → change_of records key ≡ None) →
        cond b (Some r.value) (change_of records key) ≡ None
    go true f rest = absurd (omega (arith, f))
    go false f rest = rest f

-- ---- what records come to

-- Records of which each key comes once have no more of a key than what they come to.
few_of : (key : List ℕ) (records : List Record) → ComesOnce records →
    count_of key records ≤ count_of key (overlaid records)
few_of key records once = go (count_of key (overlaid records)) refl
  where
    go : (n : ℕ) → count_of key (overlaid records) ≡ n → count_of key records ≤ n
    go zero e = omega (
      arith,
      ap (count_of key) (sym (flat_singles records)),
      not_last_said key (singles records)
          (sym (found records key) ∙ none_there key (overlaid records) e),
    )
    go (suc n) e = omega (arith, once key)

-- No records have a key twice.
pub none_obey : (rule : KeyRule) → Obeys rule []
none_obey LastCounts = tt
none_obey Unique = λ key. omega arith

-- Where what comes behind has greater keys, each key comes once if it does in both.
pub both_obey : (rule : KeyRule) (xs ys : List Record) →
    Rising (keys_of (overlaid xs ++ overlaid ys)) → Obeys rule xs → Obeys rule ys →
    Obeys rule (xs ++ ys)
both_obey LastCounts xs ys h a b = tt
both_obey Unique xs ys h a b = λ key. omega (
  arith,
  count_both key xs ys,
  few_of key xs a,
  few_of key ys b,
  count_both key (overlaid xs) (overlaid ys),
  one_at_most key (overlaid xs ++ overlaid ys) (is_rising (overlaid xs ++ overlaid ys) h),
)

-- ---- lists that have no key in common

-- A list has no record of the key, or nothing else is said of it.
one_or_none : (key : List ℕ) (lists : List (List Record)) (records : List Record) →
    AllByRecursion (λ r. last_change_of lists r.key ≡ None) records →
    (n : ℕ) → count_of key records ≡ suc n → last_change_of lists key ≡ None
one_or_none key lists [] h n e = absurd (omega (arith, e))
one_or_none key lists (r ∷ records) h n e = go (has key r) refl e (one_or_none key lists records h.1 n)
  where
    go : (b : Bool) → has key r ≡ b →
        length (cond b (r ∷ filter (has key) records) (filter (has key) records)) ≡ suc n →
        (count_of key records ≡ suc n → last_change_of lists key ≡ None) →
        last_change_of lists key ≡ None
    go true f k rest = subst (λ x. last_change_of lists x ≡ None)
        (order_same r.key key (eq_true (key_order r.key key) f)) h.0
    go false f k rest = rest k

once_in_all : (lists : List (List Record)) → AllRising lists → AreApart lists →
    ComesOnce (all_in lists)
once_in_all [] h a key = omega arith
once_in_all (records ∷ lists) h a key = go (count_of key records) refl (once_in_all lists h.1 a.1 key)
  where
    go : (n : ℕ) → count_of key records ≡ n → count_of key (all_in lists) ≤ 1 →
        count_of key (records ++ all_in lists) ≤ 1
    go zero e rest = omega (arith, e, count_both key records (all_in lists), rest)
    go (suc n) e rest = omega (
      arith,
      count_both key records (all_in lists),
      one_at_most key records (is_rising records h.0),
      not_last_said key lists (one_or_none key lists records a.0 n e),
    )

-- Each key comes once in each of the lists.
abbrev AllOnce : List (List Record) → Type 0
AllOnce parts = AllByRecursion ComesOnce parts

few_of_all : (key : List ℕ) (parts : List (List Record)) → AllOnce parts →
    count_of key (all_in parts) ≤ count_of key (all_in (map overlaid parts))
few_of_all key [] h = omega arith
few_of_all key (part ∷ parts) h = omega (
  arith,
  count_both key part (all_in parts),
  count_both key (overlaid part) (all_in (map overlaid parts)),
  few_of key part h.0,
  few_of_all key parts h.1,
)

all_rise : (parts : List (List Record)) → AllRising (map overlaid parts)
all_rise [] = tt
all_rise (part ∷ parts) = (overlaid_rises part, all_rise parts)

-- Parts that obey, and come to lists that have no key in common, obey together.
pub all_obey : (rule : KeyRule) (parts : List (List Record)) → AllByRecursion (Obeys rule) parts →
    AreApart (map overlaid parts) → Obeys rule (flat_map (λ part. part) parts)
all_obey LastCounts parts once a = tt
all_obey Unique parts once a = λ key. omega (
  arith,
  few_of_all key parts once,
  once_in_all (map overlaid parts) (all_rise parts) a key,
)

last_not_unique : LastCounts ≡ Unique → ⊥
last_not_unique e = cc

-- All records obey the rule by which the last one counts.
pub last_obeys : (rule : KeyRule) (records : List Record) → rule ≡ LastCounts → Obeys rule records
last_obeys LastCounts records e = tt
last_obeys Unique records e = absurd (last_not_unique (sym e))

-- Records of which each key comes once obey each rule.
pub once_obeys : (rule : KeyRule) (records : List Record) → ComesOnce records → Obeys rule records
once_obeys LastCounts records once = tt
once_obeys Unique records once = once

-- ---- records of numbers

some_there : (key : List ℕ) (records : List Record) (n : ℕ) → count_of key records ≡ suc n →
    (j : ℕ) × (j < length records) × ((d : Record) → (get_or records j d).key ≡ key)
some_there key [] n e = absurd (omega (arith, e))
some_there key (r ∷ records) n e = go (has key r) refl e (some_there key records n)
  where
    go : (b : Bool) → has key r ≡ b →
        length (cond b (r ∷ filter (has key) records) (filter (has key) records)) ≡ suc n →
        (count_of key records ≡ suc n → (j : ℕ) × (j < length records) ×
        ((d : Record) → (get_or records j d).key ≡ key)) →
        (j : ℕ) × (j < length (r ∷ records)) × ((d : Record) → (get_or (r ∷ records) j d).key ≡ key)
    go true f k rest = (0, omega arith, λ d. order_same r.key key (eq_true (key_order r.key key) f))
    go false f k rest = let more = rest k in (suc more.0, omega (arith, more.1), more.2)

-- Where no two records are doubled, each key comes once.
pub apart_once : (records : List Record) →
    ((first second : ℕ) → AreDoubled records first second → ⊥) → ComesOnce records
apart_once [] h key = omega arith
apart_once (r ∷ records) h key =
    go (has key r) refl (count_of key records) refl (apart_once records
    (λ first second two. h (suc first) (suc second) (record {
      order = omega (arith, two.order);
      within = omega (arith, two.within);
      same = two.same;
    })) key)
  where
    go : (b : Bool) → has key r ≡ b → (n : ℕ) → count_of key records ≡ n →
        count_of key records ≤ 1 →
        length (cond b (r ∷ filter (has key) records) (filter (has key) records)) ≤ 1
    go true f zero e rest = omega (arith, e)
    go true f (suc n) e rest =
        let more = some_there key records n e in
        absurd (h zero (suc more.0) (record {
          order = omega arith;
          within = omega (arith, more.1);
          same = λ d. order_same r.key key (eq_true (key_order r.key key) f) ∙ sym (more.2 d);
        }))
    go false f n e rest = rest
