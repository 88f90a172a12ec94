-- The difference of two maps, from that of what is behind their first pairs.
use Rattle.std.proofs.Common.{◌≡◌, ◌≢◌, ℕ, Bool, true, false, cond, List, [], ◌∷◌, ◌++◌, Option}
use Rattle.std.proofs.Common.{Some, None, Ordering, refl, sym, ap, ◌∙◌, subst}
use Rattle.std.specs.declared.cmp.Ordering.TheVariants.{Less, Equal, Greater}
use Rattle.std.specs.Ordering.{is_eq}
use Rattle.prolly_entry.specs.Keys.{key_order, KeyBelow, RisingFrom}
use Rattle.prolly_entry.specs.Overlay.{change_of}
use Rattle.prolly_entry.specs.Pair.{Pair}
use Rattle.prolly_entry.specs.Record.{Record, keys_of}
use Rattle.prolly_entry.specs.lemmas.Orders.{order_self, order_same, greater_below, eq_true}
use Rattle.prolly_tree.specs.Difference.{IsChangeTo, IsDifference, IsMap, SaysNoEqual}
use Rattle.prolly_tree.specs.Difference.{SomeDifference}
use Rattle.prolly_tree.specs.LookUp.{find}
use Rattle.prolly_tree.specs.lemmas.Maps.{Above, Rises, above_first, above_more, find_above}
use Rattle.prolly_tree.specs.lemmas.Maps.{map_behind, rises}

-- ---- what is said, and what is not

unsaid : (before after : Option (List ℕ)) (word : Option (Option (List ℕ))) →
    IsChangeTo before after word → before ≡ after → word ≡ None
unsaid before after None h e = refl
unsaid before after (Some said) h e = absurd (h.1 e)

-- The difference of two maps says nothing of a key that both have alike.
pub says_no_equal : SaysNoEqual
says_no_equal old new d key is e = unsaid (find old key) (find new key) (change_of d key)
    (is.says key) e

-- So a key of which it says something is not below one that both maps are above.
says_above : (x : List ℕ) (r : Record) (old new : List Pair) (d : List Record) → Above x old →
    Above x new → IsDifference old new (r ∷ d) → KeyBelow x r.key
says_above x r old new d h k is = go (key_order x r.key) refl
  where
    said : change_of (r ∷ d) r.key ≡ Some r.value
    said = ap (λ b. cond b (Some r.value) (change_of d r.key)) (ap is_eq (order_self r.key))

    some_none : Some r.value ≡ None → ⊥
    some_none e = cc

    not_above : Above r.key old → Above r.key new → ⊥
    not_above a b = some_none (sym said ∙ says_no_equal old new (r ∷ d) r.key is
        (find_above old r.key a ∙ sym (find_above new r.key b)))

    go : (o : Ordering) → key_order x r.key ≡ o → KeyBelow x r.key
    go Less e = e
    go Equal e = let same : x ≡ r.key = order_same x r.key e in
        absurd (not_above (subst (λ y. Above y old) same h) (subst (λ y. Above y new) same k))
    go Greater e = let b : KeyBelow r.key x = greater_below x r.key e in
        absurd (not_above (above_more r.key x old b h) (above_more r.key x new b k))

difference_above : (x : List ℕ) (old new : List Pair) (d : List Record) → Above x old →
    Above x new → IsDifference old new d → RisingFrom x (keys_of d)
difference_above x old new [] h k is = tt
difference_above x old new (r ∷ d) h k is = (says_above x r old new d h k is, is.rising)

-- ---- one key more, in front

-- What is found in a list of pairs, where something else is found of one key.
abbrev found_with : List ℕ → Option (List ℕ) → List Pair → List ℕ → Option (List ℕ)
found_with x value ps key = cond (is_eq (key_order x key)) value (find ps key)

-- Where two maps differ at one key more, below all others, a record says so first.
one_more : (x : List ℕ) (before after : Option (List ℕ)) (os ns old new : List Pair)
    (d : List Record) → Above x os → Above x ns → before ≢ after →
    ((key : List ℕ) → find old key ≡ found_with x before os key) →
    ((key : List ℕ) → find new key ≡ found_with x after ns key) →
    IsDifference os ns d → IsDifference old new (record { key = x; value = after } ∷ d)
one_more x before after os ns old new d h k differ olds news is = record {
  rising = difference_above x os ns d h k is;
  says = λ key. subst (λ f. IsChangeTo f (find new key) (word key)) (sym (olds key))
      (subst (λ f. IsChangeTo (found_with x before os key) f (word key)) (sym (news key))
      (go key (is_eq (key_order x key))));
}
  where
    word : List ℕ → Option (Option (List ℕ))
    word key = change_of (record { key = x; value = after } ∷ d) key

    go : (key : List ℕ) (b : Bool) → IsChangeTo (cond b before (find os key))
        (cond b after (find ns key)) (cond b (Some after) (change_of d key))
    go key true = (refl, differ)
    go key false = is.says key

-- Where all keys are above one, something else is found of it only where it is put.
none_with : (x : List ℕ) (ps : List Pair) → Above x ps → (key : List ℕ) →
    find ps key ≡ found_with x None ps key
none_with x ps h key = go (is_eq (key_order x key)) refl
  where
    go : (b : Bool) → is_eq (key_order x key) ≡ b → find ps key ≡ cond b None (find ps key)
    go true e = find_above ps key (subst (λ y. Above y ps)
        (order_same x key (eq_true (key_order x key) e)) h)
    go false e = refl

none_some : (v : List ℕ) → None ≡ Some v → ⊥
none_some v e = cc

-- Maps of no pairs have the empty difference.
pub differ_nowhere : IsDifference [] [] []
differ_nowhere = record { rising = tt; says = λ key. refl }

-- A first pair of the old map whose key is below all of the new one's is removed first.
pub removed_first : (o : Pair) (os ns : List Pair) (d : List Record) → IsMap (o ∷ os) →
    Above o.key ns → IsDifference os ns d →
    IsDifference (o ∷ os) ns (record { key = o.key; value = None } ∷ d)
removed_first o os ns d h k is = one_more o.key (Some o.value) None os ns (o ∷ os) ns d
    (rises (o ∷ os) h).0 k (λ e. none_some o.value (sym e)) (λ key. refl)
    (none_with o.key ns k) is

-- A first pair of the new map whose key is below all of the old one's is put first.
pub added_first : (n : Pair) (os ns : List Pair) (d : List Record) → Above n.key os →
    IsMap (n ∷ ns) → IsDifference os ns d →
    IsDifference os (n ∷ ns) (record { key = n.key; value = Some n.value } ∷ d)
added_first n os ns d h k is = one_more n.key None (Some n.value) os ns os (n ∷ ns) d
    h (rises (n ∷ ns) k).0 (none_some n.value) (none_with n.key os h) (λ key. refl) is

-- Where the first pairs have one key and two values, the new one's value is put first.
pub changed_first : (o n : Pair) (os ns : List Pair) (d : List Record) → IsMap (o ∷ os) →
    IsMap (n ∷ ns) → o.key ≡ n.key → o.value ≢ n.value → IsDifference os ns d →
    IsDifference (o ∷ os) (n ∷ ns) (record { key = n.key; value = Some n.value } ∷ d)
changed_first o n os ns d h k same differ is = one_more n.key (Some o.value) (Some n.value) os ns
    (o ∷ os) (n ∷ ns) d (subst (λ x. Above x os) same (rises (o ∷ os) h).0)
    (rises (n ∷ ns) k).0 (λ e. differ (value_is o.value n.value e))
    (λ key. ap (λ x. found_with x (Some o.value) os key) same) (λ key. refl) is
  where
    value_is : (v w : List ℕ) → Some v ≡ Some w → v ≡ w
    value_is v w e = cc

-- ---- what both maps have

one_shared : (p : Pair) (os ns : List Pair) (d : List Record) → Above p.key os → Above p.key ns →
    IsDifference os ns d → IsDifference (p ∷ os) (p ∷ ns) d
one_shared p os ns d h k is = record {
  rising = is.rising;
  says = λ key. go key (is_eq (key_order p.key key)) refl;
}
  where
    -- Nothing is said of the pair's key.
    silent : change_of d p.key ≡ None
    silent = says_no_equal os ns d p.key is (find_above os p.key h ∙ sym (find_above ns p.key k))

    go : (key : List ℕ) (b : Bool) → is_eq (key_order p.key key) ≡ b →
        IsChangeTo (cond b (Some p.value) (find os key)) (cond b (Some p.value) (find ns key))
        (change_of d key)
    go key true e = subst (λ w. IsChangeTo (Some p.value) (Some p.value) w)
        (sym (subst (λ x. change_of d x ≡ None)
        (order_same p.key key (eq_true (key_order p.key key) e)) silent)) refl
    go key false e = is.says key

shared : (xs a b : List Pair) (d : List Record) → Rises (xs ++ a) → Rises (xs ++ b) →
    IsDifference a b d → IsDifference (xs ++ a) (xs ++ b) d
shared [] a b d h k is = is
shared (x ∷ xs) a b d h k is = one_shared x (xs ++ a) (xs ++ b) d h.0 k.0
    (shared xs a b d h.1 k.1 is)

-- What both maps begin with makes no difference.
pub shared_first : (xs a b : List Pair) (d : List Record) → IsMap (xs ++ a) → IsMap (xs ++ b) →
    IsDifference a b d → IsDifference (xs ++ a) (xs ++ b) d
shared_first xs a b d h k is = shared xs a b d (rises (xs ++ a) h) (rises (xs ++ b) k) is

-- ---- each two maps have a difference

-- The two maps have a difference.
abbrev HaveDifference : List Pair → List Pair → Type 0
HaveDifference old new = (d : List Record) × IsDifference old new d

removed : (o : Pair) (os ns : List Pair) → IsMap (o ∷ os) → Above o.key ns →
    HaveDifference os ns → HaveDifference (o ∷ os) ns
removed o os ns h k r =
    (record { key = o.key; value = None } ∷ r.0, removed_first o os ns r.0 h k r.1)

added : (n : Pair) (os ns : List Pair) → Above n.key os → IsMap (n ∷ ns) →
    HaveDifference os ns → HaveDifference os (n ∷ ns)
added n os ns h k r =
    (record { key = n.key; value = Some n.value } ∷ r.0, added_first n os ns r.0 h k r.1)

kept_or_changed : (o n : Pair) (os ns : List Pair) → IsMap (o ∷ os) → IsMap (n ∷ ns) →
    o.key ≡ n.key → HaveDifference os ns → HaveDifference (o ∷ os) (n ∷ ns)
kept_or_changed o n os ns h k same r = go (key_order o.value n.value) refl
  where
    changed : o.value ≢ n.value → HaveDifference (o ∷ os) (n ∷ ns)
    changed differ = (
      record { key = n.key; value = Some n.value } ∷ r.0,
      changed_first o n os ns r.0 h k same differ r.1,
    )

    kept : o.value ≡ n.value → HaveDifference (o ∷ os) (n ∷ ns)
    kept alike =
        let Kept : List ℕ → List ℕ → Type 0 =
        λ key value. HaveDifference (o ∷ os) (record { key = key; value = value } ∷ ns) in
        subst (λ key. Kept key n.value) same (subst (λ value. Kept o.key value) alike (
          r.0,
          one_shared o os ns r.0 (rises (o ∷ os) h).0
              (subst (λ key. Above key ns) (sym same) (rises (n ∷ ns) k).0) r.1,
        ))

    apart : (c : Ordering) → key_order o.value n.value ≡ c → (c ≡ Equal → ⊥) → o.value ≢ n.value
    apart c e unequal alike = unequal (sym e ∙ ap (key_order o.value) (sym alike) ∙
        order_self o.value)

    less_equal : Less ≡ Equal → ⊥
    less_equal e = cc

    greater_equal : Greater ≡ Equal → ⊥
    greater_equal e = cc

    go : (c : Ordering) → key_order o.value n.value ≡ c → HaveDifference (o ∷ os) (n ∷ ns)
    go Less e = changed (apart Less e less_equal)
    go Equal e = kept (order_same o.value n.value e)
    go Greater e = changed (apart Greater e greater_equal)

-- Where the rest of a map has a difference to each map, so has all of it.
from_rest : (o : Pair) (os new : List Pair) → IsMap (o ∷ os) → IsMap new →
    ((rest : List Pair) → IsMap rest → HaveDifference os rest) → HaveDifference (o ∷ os) new
from_rest o os [] h k rests = removed o os [] h tt (rests [] tt)
from_rest o os (n ∷ ns) h k rests = go (key_order o.key n.key) refl
    (from_rest o os ns h (map_behind (n ∷ []) ns k) rests)
  where
    go : (c : Ordering) → key_order o.key n.key ≡ c → HaveDifference (o ∷ os) ns →
        HaveDifference (o ∷ os) (n ∷ ns)
    go Less e later = removed o os (n ∷ ns) h (above_first o.key (n ∷ ns) k e) (rests (n ∷ ns) k)
    go Equal e later = kept_or_changed o n os ns h k (order_same o.key n.key e)
        (rests ns (map_behind (n ∷ []) ns k))
    go Greater e later = added n (o ∷ os) ns
        (above_first n.key (o ∷ os) h (greater_below o.key n.key e)) k later

-- Two maps have a difference.
pub some_difference : SomeDifference
some_difference [] [] h k = ([], differ_nowhere)
some_difference [] (n ∷ ns) h k = added n [] ns tt k
    (some_difference [] ns h (map_behind (n ∷ []) ns k))
some_difference (o ∷ os) new h k = from_rest o os new h k
    (λ rest r. some_difference os rest (map_behind (o ∷ []) os h) r)
