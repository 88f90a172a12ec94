-- Keys that several inputs have, and records that none of them leaves out.
use Rattle.std.proofs.Common.{◌≡◌, ℕ, suc, ◌+◌, ◌≤◌, Bool, true, false, cond, List, [], ◌∷◌, ◌++◌, length}
use Rattle.std.proofs.Common.{Some, None, ◌⊎◌, inl, inr, refl, sym, ap, ◌∙◌, subst}
use Rattle.std.proofs.Common.{length-append, arith}
use Rattle.std.proofs.lemmas.List.Elements.{filter-append}
use Rattle.std.specs.List.{AllByRecursion}
use Rattle.std.specs.Ordering.{is_eq}
use Rattle.prolly_entry.specs.Keys.{key_order, KeyBelow}
use Rattle.prolly_entry.specs.Overlay.{change_of, or_else, last_change_of, AllRising, NotBelow}
use Rattle.prolly_entry.specs.Overlay.{rest_after}
use Rattle.prolly_entry.specs.Record.{Record}
use Rattle.prolly_entry.specs.lemmas.Orders.{order_same, not_eq_below, not_eq_above, eq_true}
use Rattle.prolly_entry.specs.lemmas.RisingRecords.{AllAbove, IsRising, is_rising, above_trans}
use Rattle.prolly_tree.specs.Chunk.{IsIn}
use Rattle.prolly_tree.specs.Merge.{Input}
use Rattle.prolly_tree.specs.MergeSteps.{rests}
use Rattle.prolly_tree.specs.lemmas.Merging.{not_below_above}
use Rattle.prolly_link.specs.declared.fault.RunFault.{RunFault}
use Rattle.prolly_merge.specs.Inputs.{lists_of}
use Rattle.prolly_merge.specs.Unique.{all_in, records_with, AreApart, StandInOrder}
use Rattle.prolly_merge.proofs.Shared.{with_key, own_record}

-- ---- the records of a key in a rising list

-- Where all keys are above a key, no record has it.
pub above_none : (key : List ℕ) (rs : List Record) → AllAbove key rs → records_with key rs ≡ []
above_none key [] h = refl
above_none key (r ∷ rs) h = rw (not_eq_above key r.key h.0) (above_none key rs h.1)

above_last : (key : List ℕ) (rs more : List Record) (r : Record) → AllAbove key (rs ++ r ∷ more) →
    KeyBelow key r.key
above_last key [] more r h = h.0
above_last key (x ∷ rs) more r h = above_last key rs more r h.1

-- In a rising list no record before another one has its key.
pub none_before : (rs more : List Record) (r : Record) → IsRising (rs ++ r ∷ more) →
    records_with r.key rs ≡ []
none_before [] more r h = refl
none_before (x ∷ rs) more r h =
    rw (not_eq_below x.key r.key (above_last x.key rs more r h.0)) (none_before rs more r h.1)

-- A record that passes has the key.
pub same_key : (r : Record) (key : List ℕ) → with_key key r ≡ true → r.key ≡ key
same_key r key e = order_same r.key key (eq_true (key_order r.key key) e)

-- There is one, or none.
pub one_or_none : (key : List ℕ) (rs : List Record) → IsRising rs →
    (records_with key rs ≡ []) ⊎ ((r : Record) × (records_with key rs ≡ r ∷ []) × IsIn r rs)
one_or_none key [] h = inl refl
one_or_none key (r ∷ rs) h = go (with_key key r) refl (one_or_none key rs h.1)
  where
    go : (b : Bool) → with_key key r ≡ b → (records_with key rs ≡ []) ⊎
        ((s : Record) × (records_with key rs ≡ s ∷ []) × IsIn s rs) →
        (cond b (r ∷ records_with key rs) (records_with key rs) ≡ []) ⊎
        ((s : Record) × (cond b (r ∷ records_with key rs) (records_with key rs) ≡ s ∷ [])
        × IsIn s (r ∷ rs))
    go true e more = inr (
      r,
      ap (λ ss. r ∷ ss) (above_none key rs (subst (λ k. AllAbove k rs) (same_key r key e) h.0)),
      inl refl,
    )
    go false e (inl none) = inl none
    go false e (inr one) = inr (one.0, one.1, inr one.2)

-- ---- without the first record of a key

own_rest : (key : List ℕ) (rs : List Record) → IsRising rs → NotBelow key rs →
    records_with key (rest_after key rs) ≡ []
own_rest key [] h k = refl
own_rest key (r ∷ rs) h k = go (with_key key r) refl
  where
    go : (b : Bool) → with_key key r ≡ b → records_with key (cond b rs (r ∷ rs)) ≡ []
    go true e = above_none key rs (subst (λ x. AllAbove x rs) (same_key r key e) h.0)
    go false e =
        let b : KeyBelow key r.key = not_below_above r.key key k e in
        above_none key (r ∷ rs) (b, above_trans key r.key rs b h.0)

other_rest : (key other : List ℕ) (rs : List Record) → is_eq (key_order key other) ≡ false →
    records_with other (rest_after key rs) ≡ records_with other rs
other_rest key other [] e = refl
other_rest key other (r ∷ rs) e = go (with_key key r) refl
  where
    go : (b : Bool) → with_key key r ≡ b →
        records_with other (cond b rs (r ∷ rs)) ≡ records_with other (r ∷ rs)
    go true f = sym (ap (λ b. cond b (r ∷ records_with other rs) (records_with other rs))
        (ap (λ k. is_eq (key_order k other)) (same_key r key f) ∙ e))
    go false f = refl

-- All records of inputs.
abbrev pub records_left : List (Input RunFault) → List Record
records_left inputs = all_in (lists_of inputs)

-- One input more.
pub left_more : (key : List ℕ) (i : Input RunFault) (inputs : List (Input RunFault)) →
    records_with key (records_left (i ∷ inputs)) ≡
    records_with key i.records ++ records_with key (records_left inputs)
left_more key i inputs = filter-append (with_key key) i.records (records_left inputs)

own_rests : (key : List ℕ) (inputs : List (Input RunFault)) → AllRising (lists_of inputs) →
    AllByRecursion (NotBelow key) (lists_of inputs) →
    records_with key (records_left (rests key inputs)) ≡ []
own_rests key [] h k = refl
own_rests key (i ∷ inputs) h k =
    filter-append (with_key key) (rest_after key i.records) (records_left (rests key inputs))
    ∙ ap (λ rs. rs ++ records_with key (records_left (rests key inputs)))
    (own_rest key i.records (is_rising i.records h.0) k.0)
    ∙ own_rests key inputs h.1 k.1

other_rests : (key other : List ℕ) (inputs : List (Input RunFault)) →
    is_eq (key_order key other) ≡ false →
    records_with other (records_left (rests key inputs)) ≡
    records_with other (records_left inputs)
other_rests key other [] e = refl
other_rests key other (i ∷ inputs) e =
    filter-append (with_key other) (rest_after key i.records) (records_left (rests key inputs))
    ∙ ap (λ rs. rs ++ records_with other (records_left (rests key inputs)))
    (other_rest key other i.records e)
    ∙ ap (λ rs. records_with other i.records ++ rs) (other_rests key other inputs e)
    ∙ sym (left_more other i inputs)

abbrev GoesAlone : Record → List (Input RunFault) → List ℕ → Type 0
GoesAlone r inputs key = records_with key (records_left inputs) ≡
    records_with key (r ∷ []) ++ records_with key (records_left (rests r.key inputs))

-- Where a record is the only one of its key, no other one is left out with it.
pub alone_goes : (r : Record) (inputs : List (Input RunFault)) → AllRising (lists_of inputs) →
    AllByRecursion (NotBelow r.key) (lists_of inputs) →
    records_with r.key (records_left inputs) ≡ r ∷ [] → (key : List ℕ) → GoesAlone r inputs key
alone_goes r inputs rising below alone key = go (with_key key r) refl
  where
    go : (b : Bool) → with_key key r ≡ b → GoesAlone r inputs key
    go true e = subst (GoesAlone r inputs) (same_key r key e) (alone ∙ sym
        (ap (λ rs. rs ++ records_with r.key (records_left (rests r.key inputs))) (own_record r)
        ∙ ap (λ rs. r ∷ rs) (own_rests r.key inputs rising below)))
    go false e = sym (ap (λ b. cond b (r ∷ []) [] ++
        records_with key (records_left (rests r.key inputs))) e ∙ other_rests r.key key inputs e)

-- ---- no key twice

few_of_key : (key : List ℕ) (rs : List Record) → IsRising rs → length (records_with key rs) ≤ 1
few_of_key key rs h = go (one_or_none key rs h)
  where
    short : (n : ℕ) → n ≡ 0 → n ≤ 1
    short n e = omega arith

    single : (n : ℕ) → n ≡ 1 → n ≤ 1
    single n e = omega arith

    go : (records_with key rs ≡ []) ⊎
        ((r : Record) × (records_with key rs ≡ r ∷ []) × IsIn r rs) →
        length (records_with key rs) ≤ 1
    go (inl none) = short (length (records_with key rs)) (ap length none)
    go (inr one) = single (length (records_with key rs)) (ap length one.1)

cons_nil : (r : Record) (rs : List Record) → r ∷ rs ≡ [] → ⊥
cons_nil r rs e = cc

none_changes : (key : List ℕ) (rs : List Record) → records_with key rs ≡ [] →
    change_of rs key ≡ None
none_changes key [] e = refl
none_changes key (r ∷ rs) e = go (with_key key r) e (none_changes key rs)
  where
    go : (b : Bool) → cond b (r ∷ records_with key rs) (records_with key rs) ≡ [] →
        (records_with key rs ≡ [] → change_of rs key ≡ None) →
        cond b (Some r.value) (change_of rs key) ≡ None
    go true e more = absurd (cons_nil r (records_with key rs) e)
    go false e more = more e

both_none : (rs ss : List Record) → rs ++ ss ≡ [] → (rs ≡ []) × (ss ≡ [])
both_none [] ss e = (refl, e)
both_none (r ∷ rs) ss e = absurd (cons_nil r (rs ++ ss) e)

none_last : (key : List ℕ) (lists : List (List Record)) → records_with key (all_in lists) ≡ [] →
    last_change_of lists key ≡ None
none_last key [] e = refl
none_last key (l ∷ lists) e =
    let both = both_none (records_with key l) (records_with key (all_in lists))
    (sym (filter-append (with_key key) l (all_in lists)) ∙ e) in
    ap (λ o. or_else o (change_of l key)) (none_last key lists both.1)
    ∙ none_changes key l both.0

abbrev FewOf : List Record → Type 0
FewOf rs = (key : List ℕ) → length (records_with key rs) ≤ 1

length_none : (rs ss : List Record) → suc (length (rs ++ ss)) ≤ 1 → ss ≡ []
length_none rs [] le = refl
length_none rs (s ∷ ss) le = absurd (no (length rs) (length ss) (length (rs ++ s ∷ ss)) le
    (length-append rs (s ∷ ss)))
  where
    no : (n m k : ℕ) → suc k ≤ 1 → k ≡ n + suc m → ⊥
    no n m k le e = omega arith

few_behind : (r : Record) (rs : List Record) → FewOf (r ∷ rs) → FewOf rs
few_behind r rs few key = go (with_key key r) (few key)
  where
    less : (n : ℕ) → suc n ≤ 1 → n ≤ 1
    less n le = omega arith

    go : (b : Bool) → length (cond b (r ∷ records_with key rs) (records_with key rs)) ≤ 1 →
        length (records_with key rs) ≤ 1
    go true le = less (length (records_with key rs)) le
    go false le = le

own_few : (r : Record) (l : List Record) (lists : List (List Record)) →
    FewOf (r ∷ (l ++ all_in lists)) → last_change_of lists r.key ≡ None
own_few r l lists few = none_last r.key lists (length_none (records_with r.key l)
    (records_with r.key (all_in lists)) (subst (λ rs. suc (length rs) ≤ 1)
    (filter-append (with_key r.key) l (all_in lists)) (subst (λ rs. length rs ≤ 1)
    (filter-append (with_key r.key) (r ∷ []) (l ++ all_in lists)
    ∙ ap (λ rs. rs ++ records_with r.key (l ++ all_in lists)) (own_record r)) (few r.key))))

firsts_few : (l : List Record) (lists : List (List Record)) → FewOf (l ++ all_in lists) →
    AllByRecursion (λ r. last_change_of lists r.key ≡ None) l
firsts_few [] lists few = tt
firsts_few (r ∷ l) lists few =
    (own_few r l lists few, firsts_few l lists (few_behind r (l ++ all_in lists) few))

few_lists : (l : List Record) (rs : List Record) → FewOf (l ++ rs) → FewOf rs
few_lists [] rs few = few
few_lists (r ∷ l) rs few = few_lists l rs (few_behind r (l ++ rs) few)

few_apart : (lists : List (List Record)) → FewOf (all_in lists) → AreApart lists
few_apart [] few = tt
few_apart (l ∷ lists) few =
    (firsts_few l lists few, few_apart lists (few_lists l (all_in lists) few))

-- Where the lists have of each key what a rising list has, no key stands in two of them.
pub are_apart : (lists : List (List Record)) (rs : List Record) → IsRising rs →
    ((key : List ℕ) → records_with key (all_in lists) ≡ records_with key rs) → AreApart lists
are_apart lists rs rising same = few_apart lists
    (λ key. subst (λ ss. length ss ≤ 1) (sym (same key)) (few_of_key key rs rising))

-- ---- a key twice

cons_first : (r s : Record) (rs ss : List Record) → r ∷ rs ≡ s ∷ ss → r ≡ s
cons_first r s rs ss e = cc

cons_rest : (r s : Record) (rs ss : List Record) → r ∷ rs ≡ s ∷ ss → rs ≡ ss
cons_rest r s rs ss e = cc

nil_some : (ys zs : List Record) (r : Record) → [] ≡ ys ++ r ∷ zs → ⊥
nil_some [] zs r e = absurd (cons_nil r zs (sym e))
nil_some (y ∷ ys) zs r e = absurd (cons_nil y (ys ++ r ∷ zs) (sym e))

-- A record among those of a key has the key, and is one of all.
pub is_among : (key : List ℕ) (rs ys zs : List Record) (s : Record) →
    records_with key rs ≡ ys ++ s ∷ zs → (s.key ≡ key) × IsIn s rs
is_among key [] ys zs s e = absurd (nil_some ys zs s e)
is_among key (r ∷ rs) ys zs s e = go (with_key key r) refl ys e (λ xs. is_among key rs xs zs s)
  where
    go : (b : Bool) → with_key key r ≡ b → (xs : List Record) →
        cond b (r ∷ records_with key rs) (records_with key rs) ≡ xs ++ s ∷ zs →
        ((us : List Record) → records_with key rs ≡ us ++ s ∷ zs → (s.key ≡ key) × IsIn s rs) →
        (s.key ≡ key) × IsIn s (r ∷ rs)
    go true f [] e more =
        let same : r ≡ s = cons_first r s (records_with key rs) zs e in
        (subst (λ x. x.key ≡ key) same (same_key r key f), inl (sym same))
    go true f (x ∷ xs) e more =
        let one = more xs (cons_rest r x (records_with key rs) (xs ++ s ∷ zs) e) in
        (one.0, inr one.1)
    go false f xs e more = let one = more xs e in (one.0, inr one.1)

abbrev Behind : List ℕ → List (List Record) → Record → Record → List Record → Type 0
Behind key lists first second zs = (us : List Record) →
    records_with key (all_in lists) ≡ us ++ first ∷ second ∷ zs → StandInOrder lists first second

-- Two among those of a key in rising lists stand in two of the lists.
pub in_order : (key : List ℕ) (lists : List (List Record)) (ys zs : List Record)
    (first second : Record) → AllRising lists →
    records_with key (all_in lists) ≡ ys ++ first ∷ second ∷ zs → StandInOrder lists first second
in_order key [] ys zs first second rising e = absurd (nil_some ys (second ∷ zs) first e)
in_order key (l ∷ lists) ys zs first second rising e =
    go (one_or_none key l (is_rising l rising.0)) ys
    (sym (filter-append (with_key key) l (all_in lists)) ∙ e)
    (λ xs. in_order key lists xs zs first second rising.1)
  where
    with_first : (r : Record) → IsIn r l → (xs : List Record) →
        r ∷ records_with key (all_in lists) ≡ xs ++ first ∷ second ∷ zs →
        Behind key lists first second zs →
        StandInOrder (l ∷ lists) first second
    with_first r is [] e more = inl (
      subst (λ x. IsIn x l)
          (cons_first r first (records_with key (all_in lists)) (second ∷ zs) e) is,
      (is_among key (all_in lists) [] zs second
          (cons_rest r first (records_with key (all_in lists)) (second ∷ zs) e)).1,
    )
    with_first r is (x ∷ xs) e more = inr (more xs (cons_rest r x
        (records_with key (all_in lists)) (xs ++ first ∷ second ∷ zs) e))

    go : (records_with key l ≡ []) ⊎
        ((r : Record) × (records_with key l ≡ r ∷ []) × IsIn r l) → (xs : List Record) →
        records_with key l ++ records_with key (all_in lists) ≡ xs ++ first ∷ second ∷ zs →
        Behind key lists first second zs →
        StandInOrder (l ∷ lists) first second
    go (inl none) xs e more = inr (more xs
        (sym (ap (λ rs. rs ++ records_with key (all_in lists)) none) ∙ e))
    go (inr one) xs e more = with_first one.0 one.2 xs
        (sym (ap (λ rs. rs ++ records_with key (all_in lists)) one.1) ∙ e) more
