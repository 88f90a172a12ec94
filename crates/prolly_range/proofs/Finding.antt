-- What is known of a key from the pairs that were shown.
use Rattle.std.proofs.Common.{◌≡◌, ℕ, inl, inr, List, [], ◌∷◌, ◌++◌, refl, sym, ap, ◌∙◌, subst}
use Rattle.std.proofs.Common.{Bool, true, false, not, None, Ordering, append-nil}
use Rattle.std.proofs.lemmas.Bool.{false≢true}
use Rattle.std.specs.List.{list_any}
use Rattle.std.specs.Ordering.{is_eq, is_lt}
use Rattle.std.specs.declared.cmp.Ordering.TheVariants.{Less, Equal, Greater}
use Rattle.prolly_entry.specs.Keys.{KeyBelow, key_order}
use Rattle.prolly_entry.specs.Pair.{Pair}
use Rattle.prolly_entry.specs.lemmas.Lists.{all_back}
use Rattle.prolly_entry.specs.lemmas.Orders.{eq_true, greater_below, order_same}
use Rattle.prolly_tree.specs.LookUp.{find}
use Rattle.prolly_tree.specs.lemmas.Maps.{Above, Rises, above_more, find_above, rises}
use Rattle.prolly_range.specs.Found.{IsPast, KeysAreFound}
use Rattle.prolly_range.specs.KeySet.{KeySet, has_key, pairs_wanted}

-- the pairs whose keys are of a set have what the map has at a key of it
find_wanted : (set : KeySet) (m : List Pair) (key : List ℕ) → has_key set key ≡ true →
    find (pairs_wanted set m) key ≡ find m key
find_wanted set [] key h = refl
find_wanted set (p ∷ ps) key h =
    go (has_key set p.key) refl (is_eq (key_order p.key key)) refl (find_wanted set ps key h)
  where
    go : (b : Bool) → has_key set p.key ≡ b → (same : Bool) → is_eq (key_order p.key key) ≡ same →
        find (pairs_wanted set ps) key ≡ find ps key →
        find (pairs_wanted set (p ∷ ps)) key ≡ find (p ∷ ps) key
    go true e true s others = rw (e, s) refl
    go true e false s others = rw (e, s) others
    go false e false s others = rw (e, s) others
    go false e true s others = absurd (false≢true (sym e ∙
        ap (has_key set) (order_same p.key key (eq_true (key_order p.key key) s)) ∙ h))

above_wanted : (set : KeySet) (x : List ℕ) (ps : List Pair) → Above x ps →
    Above x (pairs_wanted set ps)
above_wanted set x [] h = tt
above_wanted set x (p ∷ ps) h = go (has_key set p.key) refl (above_wanted set x ps h.1)
  where
    go : (b : Bool) → has_key set p.key ≡ b → Above x (pairs_wanted set ps) →
        Above x (pairs_wanted set (p ∷ ps))
    go true e others = rw e (h.0, others)
    go false e others = rw e others

pub rises_wanted : (set : KeySet) (ps : List Pair) → Rises ps → Rises (pairs_wanted set ps)
rises_wanted set [] h = tt
rises_wanted set (p ∷ ps) h = go (has_key set p.key) refl (rises_wanted set ps h.1)
  where
    go : (b : Bool) → has_key set p.key ≡ b → Rises (pairs_wanted set ps) →
        Rises (pairs_wanted set (p ∷ ps))
    go true e others = rw e (above_wanted set p.key ps h.0, others)
    go false e others = rw e others

-- keys above one that is not less than this one are above it
above_not_less : (x key : List ℕ) (ps : List Pair) → not (is_lt (key_order x key)) ≡ true →
    Above x ps → Above key ps
above_not_less x key ps h above = go (key_order x key) refl h
  where
    go : (o : Ordering) → key_order x key ≡ o → not (is_lt o) ≡ true → Above key ps
    go Less e l = absurd (false≢true l)
    go Equal e l = subst (λ y. Above y ps) (order_same x key e) above
    go Greater e l = above_more key x ps (greater_below x key e) above

-- what is behind such a pair is above the key
above_past : (shown more : List Pair) (key : List ℕ) → Rises (shown ++ more) →
    list_any (λ p. not (is_lt (key_order p.key key))) shown ≡ true → Above key more
above_past [] more key h past = absurd (false≢true past)
above_past (p ∷ ps) more key h past =
    go (not (is_lt (key_order p.key key))) refl (above_past ps more key h.1)
  where
    go : (b : Bool) → not (is_lt (key_order p.key key)) ≡ b →
        (list_any (λ p. not (is_lt (key_order p.key key))) ps ≡ true → Above key more) →
        Above key more
    go true e others =
        above_not_less p.key key more e (all_back (λ q. KeyBelow p.key q.key) ps more h.0)
    go false e others = others (rw e at past)

find_first : (xs ys : List Pair) (key : List ℕ) → find ys key ≡ None →
    find (xs ++ ys) key ≡ find xs key
find_first [] ys key h = h
find_first (p ∷ xs) ys key h = go (is_eq (key_order p.key key)) refl (find_first xs ys key h)
  where
    go : (b : Bool) → is_eq (key_order p.key key) ≡ b → find (xs ++ ys) key ≡ find xs key →
        find (p ∷ xs ++ ys) key ≡ find (p ∷ xs) key
    go true e others = rw e refl
    go false e others = rw e others

pub keys_are_found : KeysAreFound
keys_are_found set m shown more key rising is has past =
    sym (first past) ∙ ap (λ ps. find ps key) (sym is) ∙ find_wanted set m key has
  where
    first : IsPast key shown more → find (shown ++ more) key ≡ find shown key
    first (inl any) = find_first shown more key (find_above more key (above_past shown more key
        (subst Rises is (rises_wanted set m (rises m rising))) any))
    first (inr none) = ap (λ ps. find (shown ++ ps) key) none ∙
        ap (λ ps. find ps key) (append-nil shown)
