-- Two records with one key, and the numbers that they carry.
use Rattle.std.proofs.Common.{◌≡◌, ℕ, zero, suc, ◌+◌, ◌-◌, ◌^◌, ◌≤◌, ◌<◌, List, [], ◌∷◌, ◌++◌, ◌⊎◌, inl, inr}
use Rattle.std.proofs.Common.{Some, Result, Ok, Err, IfErr, IfOk, IsErrAnd, None, true, is_some, length, flat_map, get_or, length-append}
use Rattle.std.proofs.Common.{refl, sym, ap, ◌∙◌, subst, arith}
use Rattle.std.proofs.lemmas.Bool.{false≢true}
use Rattle.std.proofs.lemmas.List.{get_or_append_left, get_or-append-add}
use Rattle.std.proofs.lemmas.Nat.{from_be_bytes-to_be_bytes_8}
use Rattle.std.specs.Int.{w64, to_be_bytes}
use Rattle.std.specs.declared.cmp.Ordering.{Ordering}
use Rattle.std.specs.declared.cmp.Ordering.TheVariants.{Less, Equal, Greater}
use Rattle.prolly_entry.specs.Keys.{key_order}
use Rattle.prolly_entry.specs.Overlay.{with_record, with_record_by, with_records}
use Rattle.prolly_entry.specs.Record.{Record}
use Rattle.prolly_tree.specs.Chunk.{IsIn}
use Rattle.prolly_merge.specs.Each.{Each}
use Rattle.prolly_merge.specs.Unique.{IsDoubled, StandInOrder, all_in}
use Rattle.prolly_merge.specs.declared.unique.Doubled.{Doubled as DoubledRecords}
use Rattle.prolly_sort.specs.declared.fault.DoubledKey.{DoubledKey}
use Rattle.prolly_sort.specs.declared.fault.SorterFault.{SorterFault}
use Rattle.prolly_sort.specs.declared.fault.SorterFault.TheVariants.{Store, Doubled}
use Rattle.prolly_sort.specs.declared.key_rule.KeyRule.{KeyRule}
use Rattle.prolly_sort.specs.declared.key_rule.KeyRule.TheVariants.{LastCounts, Unique}
use Rattle.prolly_sort.specs.declared.sorter.Sorter.{Sorter}
use Rattle.prolly_sort.specs.Overlaid.{overlaid}
use Rattle.prolly_sort.specs.Run.{AreDoubled}
use Rattle.prolly_sort.specs.Shelf.{counted, is_unique}
use Rattle.prolly_sort.specs.Told.{AreNumbered, AreTold, CountUpFrom, IsToldOf, fault_behind}
use Rattle.prolly_sort.specs.Told.{number_behind, number_in, number_record, numbered}
use Rattle.prolly_sort.proofs.Coming.{come_to}

-- What is told by one reason is told by what follows from it.
pub told_by : (rule : KeyRule) (P Q : ℕ → ℕ → Type 0) (fault : SorterFault) →
    ((a b : ℕ) → P a b → Q a b) → IsToldOf rule P fault → IsToldOf rule Q fault
told_by rule P Q (Store f) h t = tt
told_by LastCounts P Q (Doubled a b) h t = absurd t
told_by Unique P Q (Doubled a b) h t = h a b t

-- The same where the fault is handed on.
pub told_on : {X : Type 0} (rule : KeyRule) (P Q : ℕ → ℕ → Type 0) (r : Result X SorterFault)
    (fault : SorterFault) → IsErrAnd r (λ f. f ≡ fault) → ((a b : ℕ) → P a b → Q a b) →
    IsToldOf rule P fault → IfErr r (IsToldOf rule Q)
told_on rule P Q (Ok x) fault e h t = tt
told_on rule P Q (Err f) fault e h t = subst (IsToldOf rule Q) (sym e) (told_by rule P Q fault h t)

-- And where the result is.
pub told_through : {X : Type 0} (rule : KeyRule) (P Q : ℕ → ℕ → Type 0) (r : Result X SorterFault) →
    ((a b : ℕ) → P a b → Q a b) → IfErr r (IsToldOf rule P) → IfErr r (IsToldOf rule Q)
told_through rule P Q (Ok x) h t = tt
told_through rule P Q (Err f) h t = told_by rule P Q f h t

-- And where the rule is the same.
pub told_same : {X : Type 0} (rule other : KeyRule) (P : ℕ → ℕ → Type 0) (r : Result X SorterFault) →
    rule ≡ other → IfErr r (IsToldOf rule P) → IfErr r (IsToldOf other P)
told_same rule other P r e t = subst (λ k. IfErr r (IsToldOf k P)) e t

-- The two numbers of a fault that is told.
pub told_two : {X : Type 0} (rule : KeyRule) (P : ℕ → ℕ → Type 0) (r : Result X SorterFault)
    (fault : SorterFault) (a b : ℕ) → IsErrAnd r (λ f. f ≡ fault) → r ≡ Err (Doubled a b) →
    IsToldOf rule P fault → P a b
told_two rule P (Ok x) fault a b e is t = absurd e
told_two {X} rule P (Err f) fault a b e is t = go rule (subst (IsToldOf rule P) (sym e ∙ same is) t)
  where
    same : ◌≡◌ {A = Result X SorterFault} (Err f) (Err (Doubled a b)) → f ≡ Doubled a b
    same k = cc

    go : (rule : KeyRule) → IsToldOf rule P (Doubled a b) → P a b
    go LastCounts u = absurd u
    go Unique u = u

last_not_unique : LastCounts ≡ Unique → ⊥
last_not_unique e = cc

-- Two numbers are told where each key is to come once.
pub two_told : (rule : KeyRule) (P : ℕ → ℕ → Type 0) (a b : ℕ) → rule ≡ Unique → P a b →
    IsToldOf rule P (Doubled a b)
two_told LastCounts P a b e h = last_not_unique e
two_told Unique P a b e h = h

-- What always holds holds of a value, where there is one.
pub if_ok_always : {X E P : Type 0} (r : Result X E) → P → IfOk r (λ x. P)
if_ok_always (Ok x) h = h
if_ok_always (Err e) h = tt

-- Where there are no numbers, a key may come twice.
pub none_unique : {W S : Type 0} (sorter : Sorter W S) → sorter.numbers ≡ None →
    is_unique sorter ≡ true → ⊥
none_unique sorter none unique = false≢true (ap is_some (sym none) ∙ unique)

-- ---- records before and behind

-- Records before others leave what is told of these.
pub told_behind : (before records : List Record) (a b : ℕ) → AreTold records a b →
    AreTold (before ++ records) a b
told_behind [] records a b t = t
told_behind (r ∷ before) records a b t =
    let more = told_behind before records a b t in record {
      first = suc more.first;
      second = suc more.second;
      doubled = record {
        order = omega (arith, more.doubled.order);
        within = omega (arith, more.doubled.within);
        same = more.doubled.same;
      };
      first_is = more.first_is;
      second_is = more.second_is;
    }

-- And so do records behind them.
pub told_before : (records behind : List Record) (a b : ℕ) → AreTold records a b →
    AreTold (records ++ behind) a b
told_before records behind a b t =
    let two = t.doubled in
    let one : (d : Record) → get_or (records ++ behind) t.first d ≡ get_or records t.first d = λ d.
    get_or_append_left records behind d t.first (omega (arith, two.order, two.within)) in
    let other : (d : Record) → get_or (records ++ behind) t.second d ≡ get_or records t.second d = λ d.
    get_or_append_left records behind d t.second two.within in record {
      first = t.first;
      second = t.second;
      doubled = record {
        order = two.order;
        within = omega (arith, two.within, length-append records behind);
        same = λ d. ap (λ r. r.key) (one d) ∙ two.same d ∙ sym (ap (λ r. r.key) (other d));
      };
      first_is = λ d. ap (λ r. number_in r.value) (one d) ∙ t.first_is d;
      second_is = λ d. ap (λ r. number_in r.value) (other d) ∙ t.second_is d;
    }

-- ---- numbers that count up

-- The number in the value that was made of a number.
number_there : (n : ℕ) → n < 2 ^ 64 → number_in (Some (to_be_bytes w64 n)) ≡ n
number_there n l = from_be_bytes-to_be_bytes_8 n l

number_at : (n : ℕ) (records : List Record) (i : ℕ) (d : Record) → CountUpFrom n records →
    i < length records → number_in (get_or records i d).value ≡ n + i
number_at n [] i d h l = absurd (omega (arith, l))
number_at n (r ∷ records) zero d h l = omega (arith, h.0)
number_at n (r ∷ records) (suc i) d h l =
    number_at (suc n) records i d h.1 (omega (arith, l)) ∙ omega arith

-- Of records that count up the last ones count up too.
pub counts_on : (n : ℕ) (before records : List Record) → CountUpFrom n (before ++ records) →
    CountUpFrom (n + length before) records
counts_on n [] records h = subst (λ k. CountUpFrom k records) (omega arith) h
counts_on n (r ∷ before) records h =
    subst (λ k. CountUpFrom k records) (omega arith) (counts_on (suc n) before records h.1)

-- Two of them are told by the numbers that they carry.
pub told_by_number : (n : ℕ) (records : List Record) (first second : ℕ) → CountUpFrom n records →
    n + length records ≤ 0xFFFF_FFFF_FFFF_FFFF → AreDoubled records first second →
    AreTold records (number_behind n first) (number_behind n second)
told_by_number n records first second h few two = record {
  first = first;
  second = second;
  doubled = two;
  first_is = λ d. number_at n records first d h (omega (arith, two.order, two.within)) ∙
      omega (arith, two.order, two.within, few);
  second_is = λ d. number_at n records second d h two.within ∙ omega (arith, two.within, few);
}

-- So a run tells two of its records.
pub told_by_run : (rule : KeyRule) (records : List Record) (before : ℕ) (two : DoubledKey) →
    rule ≡ Unique → AreDoubled records two.first two.second →
    IsToldOf rule (λ a b. CountUpFrom before records →
    before + length records ≤ 0xFFFF_FFFF_FFFF_FFFF → AreTold records a b) (fault_behind before two)
told_by_run rule records before two e doubled =
    two_told rule _ (number_behind before two.first) (number_behind before two.second) e
    (λ counts few. told_by_number before records two.first two.second counts few doubled)

-- ---- the numbers of records

pub numbered_count : (n : ℕ) (records : List Record) → n + length records ≤ 0xFFFF_FFFF_FFFF_FFFF →
    CountUpFrom n (numbered n records)
numbered_count n [] l = tt
numbered_count n (r ∷ records) l =
    (number_there n (omega (arith, l)), numbered_count (suc n) records (omega (arith, l)))

pub numbered_length : (n : ℕ) (records : List Record) → length (numbered n records) ≡ length records
numbered_length n [] = refl
numbered_length n (r ∷ records) = ap suc (numbered_length (suc n) records)

pub numbered_push : (n : ℕ) (records : List Record) (r : Record) →
    numbered n (records ++ r ∷ []) ≡
    numbered n records ++ number_record (n + length records) r.key ∷ []
numbered_push n [] r = ap (λ k. number_record k r.key ∷ []) (omega arith)
numbered_push n (s ∷ records) r = ap (λ rs. number_record n s.key ∷ rs)
    (numbered_push (suc n) records r ∙
    ap (λ k. numbered (suc n) records ++ number_record k r.key ∷ []) (omega arith))

-- The number of one record more.
pub numbers_more : (records : List Record) (r : Record) →
    numbered 0 records ++ number_record (length (numbered 0 records)) r.key ∷ [] ≡
    numbered 0 (records ++ r ∷ [])
numbers_more records r =
    let n : length (numbered 0 records) ≡ 0 + length records = omega (arith, numbered_length 0 records) in
    ap (λ k. numbered 0 records ++ number_record k r.key ∷ []) n ∙ sym (numbered_push 0 records r)

keys_stay : (n : ℕ) (records : List Record) (i : ℕ) (d : Record) → i < length records →
    (get_or (numbered n records) i d).key ≡ (get_or records i d).key
keys_stay n [] i d l = absurd (omega (arith, l))
keys_stay n (r ∷ records) zero d l = refl
keys_stay n (r ∷ records) (suc i) d l = keys_stay (suc n) records i d (omega (arith, l))

-- Numbers of which two are doubled say so of the records.
numbers_doubled : (n : ℕ) (records : List Record) (first second : ℕ) →
    AreDoubled (numbered n records) first second → AreDoubled records first second
numbers_doubled n records first second two =
    let within : second < length records = omega (arith, two.within, numbered_length n records) in
    record {
      order = two.order;
      within = within;
      same = λ d. sym (keys_stay n records first d (omega (arith, two.order, within))) ∙ two.same d ∙
          keys_stay n records second d within;
    }

-- The numbers that are told are those of two records with one key.
pub told_numbers : (records : List Record) (a b : ℕ) → length records ≤ 0xFFFF_FFFF_FFFF_FFFF →
    AreTold (numbered 0 records) a b → AreDoubled records a b
told_numbers records a b few t =
    let d : Record = record { key = []; value = Some [] } in
    let within : t.second < length (numbered 0 records) = t.doubled.within in
    let counts = numbered_count 0 records (omega (arith, few)) in
    let one : t.first ≡ a = omega (
      arith,
      number_at 0 (numbered 0 records) t.first d counts
          (omega (arith, t.doubled.order, within)),
      t.first_is d,
    ) in
    let other : t.second ≡ b = omega (
      arith,
      number_at 0 (numbered 0 records) t.second d counts within,
      t.second_is d,
    ) in
    subst (λ k. AreDoubled records k b) one (subst (λ k. AreDoubled records t.first k) other
    (numbers_doubled 0 records t.first t.second t.doubled))

-- What is told of the numbers is told of the records before them.
pub told_of_all : (first run came : List Record) (count before a b : ℕ) → came ≡ first ++ run →
    AreNumbered came → count ≡ counted came → before ≡ count - length run →
    (CountUpFrom before run → before + length run ≤ 0xFFFF_FFFF_FFFF_FFFF → AreTold run a b) →
    AreTold came a b
told_of_all first run came count before a b all h count_is before_is told =
    let len : length came ≡ length first + length run = ap length all ∙ length-append first run in
    let at : 0 + length first ≡ before = omega (arith, len, h.1, count_is, before_is) in
    subst (λ rs. AreTold rs a b) (sym all) (told_behind first run a b
    (told (subst (λ n. CountUpFrom n run) at (counts_on 0 first run (subst (CountUpFrom 0) all h.0)))
    (omega (arith, len, h.1, at))))

-- Where two records have one key, so have their numbers.
pub doubled_numbers : (n : ℕ) (records : List Record) (first second : ℕ) →
    AreDoubled records first second → AreDoubled (numbered n records) first second
doubled_numbers n records first second two = record {
  order = two.order;
  within = omega (arith, two.within, numbered_length n records);
  same = λ d. keys_stay n records first d (omega (arith, two.order, two.within)) ∙ two.same d ∙
      sym (keys_stay n records second d two.within);
}

-- The numbers of records are numbered.
pub numbers_numbered : (records : List Record) → length records ≤ 0xFFFF_FFFF_FFFF_FFFF →
    AreNumbered (numbered 0 records)
numbers_numbered records few =
    (numbered_count 0 records (omega (arith, few)), omega (arith, few, numbered_length 0 records))

-- ---- the records of a merger's inputs

-- The list has no records but these.
abbrev pub AreAmong : List Record → List Record → Type 0
AreAmong list records = (r : Record) → IsIn r list → IsIn r records

in_one : (r s : Record) (m : List Record) → IsIn r (with_record s m) → (r ≡ s) ⊎ IsIn r m
in_one r s [] (inl e) = inl e
in_one r s [] (inr e) = absurd e
in_one r s (t ∷ m) at = go (key_order s.key t.key) at (in_one r s m)
  where
    go : (o : Ordering) → IsIn r (with_record_by o s t m (with_record s m)) →
        (IsIn r (with_record s m) → (r ≡ s) ⊎ IsIn r m) → (r ≡ s) ⊎ IsIn r (t ∷ m)
    go Less (inl e) rest = inl e
    go Less (inr more) rest = inr more
    go Equal (inl e) rest = inl e
    go Equal (inr more) rest = inr (inr more)
    go Greater (inl e) rest = inr (inl e)
    go Greater (inr more) rest = deeper (rest more)
      where
        deeper : (r ≡ s) ⊎ IsIn r m → (r ≡ s) ⊎ IsIn r (t ∷ m)
        deeper (inl e) = inl e
        deeper (inr at) = inr (inr at)

in_all : (r : Record) (m records : List Record) → IsIn r (with_records m records) →
    IsIn r m ⊎ IsIn r records
in_all r m [] at = inl at
in_all r m (s ∷ records) at = go (in_all r (with_record s m) records at)
  where
    one : (r ≡ s) ⊎ IsIn r m → IsIn r m ⊎ IsIn r (s ∷ records)
    one (inl e) = inr (inl e)
    one (inr at) = inl at

    go : IsIn r (with_record s m) ⊎ IsIn r records → IsIn r m ⊎ IsIn r (s ∷ records)
    go (inl at) = one (in_one r s m at)
    go (inr at) = inr (inr at)

-- What records come to has no records but these.
pub overlaid_among : (records : List Record) → AreAmong (overlaid records) records
overlaid_among records r at = go (in_all r [] records (subst (IsIn r) (come_to records) at))
  where
    go : IsIn r [] ⊎ IsIn r records → IsIn r records
    go (inl none) = absurd none
    go (inr at) = at

pub in_front : (r : Record) (xs ys : List Record) → IsIn r xs → IsIn r (xs ++ ys)
in_front r [] ys at = absurd at
in_front r (x ∷ xs) ys (inl e) = inl e
in_front r (x ∷ xs) ys (inr at) = inr (in_front r xs ys at)

in_back : (r : Record) (xs ys : List Record) → IsIn r ys → IsIn r (xs ++ ys)
in_back r [] ys at = at
in_back r (x ∷ xs) ys at = inr (in_back r xs ys at)

in_either : (r : Record) (xs ys : List Record) → IsIn r (xs ++ ys) → IsIn r xs ⊎ IsIn r ys
in_either r [] ys at = inr at
in_either r (x ∷ xs) ys (inl e) = inl (inl e)
in_either r (x ∷ xs) ys (inr at) = go (in_either r xs ys at)
  where
    go : IsIn r xs ⊎ IsIn r ys → IsIn r (x ∷ xs) ⊎ IsIn r ys
    go (inl at) = inl (inr at)
    go (inr at) = inr at

all_among : (lists parts : List (List Record)) → Each AreAmong lists parts →
    AreAmong (all_in lists) (all_in parts)
all_among [] parts h r at = absurd at
all_among (list ∷ lists) [] h r at = absurd h
all_among (list ∷ lists) (part ∷ parts) h r at =
    go (in_either r list (all_in lists) at) (all_among lists parts h.1 r)
  where
    go : IsIn r list ⊎ IsIn r (all_in lists) → (IsIn r (all_in lists) → IsIn r (all_in parts)) →
        IsIn r (part ++ all_in parts)
    go (inl at) rest = in_front r part (all_in parts) (h.0 r at)
    go (inr at) rest = in_back r part (all_in parts) (rest at)

-- The record has this number among the records.
record StandsAt (records : List Record) (r : Record) : Type 0 where
  at : ℕ
  within : at < length records
  is : (d : Record) → get_or records at d ≡ r

stands_at : (records : List Record) (r : Record) → IsIn r records → StandsAt records r
stands_at [] r at = absurd at
stands_at (x ∷ records) r (inl e) = record { at = 0; within = omega arith; is = λ d. sym e }
stands_at (x ∷ records) r (inr at) = let more = stands_at records r at in record {
  at = suc more.at;
  within = omega (arith, more.within);
  is = more.is;
}

-- Two records that stand in two parts one behind the other, and have one key, are told.
told_of_two : (part rest : List Record) (one other : Record) → one.key ≡ other.key →
    IsIn one part → IsIn other rest →
    AreTold (part ++ rest) (number_in one.value) (number_in other.value)
told_of_two part rest one other same front back =
    let i = stands_at part one front in
    let j = stands_at rest other back in
    let one_is : (d : Record) → get_or (part ++ rest) i.at d ≡ one = λ d.
    get_or_append_left part rest d i.at i.within ∙ i.is d in
    let other_is : (d : Record) → get_or (part ++ rest) (length part + j.at) d ≡ other = λ d.
    get_or-append-add part rest j.at d ∙ j.is d in record {
      first = i.at;
      second = length part + j.at;
      doubled = record {
        order = omega (arith, i.within);
        within = omega (arith, j.within, length-append part rest);
        same = λ d. ap (λ r. r.key) (one_is d) ∙ same ∙ sym (ap (λ r. r.key) (other_is d));
      };
      first_is = λ d. ap (λ r. number_in r.value) (one_is d);
      second_is = λ d. ap (λ r. number_in r.value) (other_is d);
    }

told_in_order : (lists parts : List (List Record)) (one other : Record) → one.key ≡ other.key →
    Each AreAmong lists parts → StandInOrder lists one other →
    AreTold (all_in parts) (number_in one.value) (number_in other.value)
told_in_order [] parts one other same h order = absurd order
told_in_order (list ∷ lists) [] one other same h order = absurd h
told_in_order (list ∷ lists) (part ∷ parts) one other same h (inl two) =
    told_of_two part (all_in parts) one other same (h.0 one two.0)
    (all_among lists parts h.1 other two.1)
told_in_order (list ∷ lists) (part ∷ parts) one other same h (inr more) =
    told_behind part (all_in parts) (number_in one.value) (number_in other.value)
    (told_in_order lists parts one other same h.1 more)

-- Where a merger of lists tells two records with one key, so these are told of the parts.
pub told_merged : (lists parts : List (List Record)) (doubled : DoubledRecords) →
    Each AreAmong lists parts → IsDoubled lists doubled →
    AreTold (flat_map (λ part. part) parts) (number_in doubled.first.value)
    (number_in doubled.second.value)
told_merged lists parts doubled h is =
    told_in_order lists parts doubled.first doubled.second is.same h is.order
