-- What is found in lists that stand one behind another: at a key, at a number, from a key on.
use Rattle.std.proofs.Common.{rules, ◌≡◌, ℕ, zero, suc, ◌+◌, ◌<◌, List, [], ◌∷◌, ◌++◌, length, None}
use Rattle.std.proofs.Common.{Ordering, refl, sym, subst, arith, not, false, append-nil}
use Rattle.std.specs.List.{slice_get, AllByRecursion}
use Rattle.std.specs.Ordering.{is_lt}
use Rattle.std.specs.declared.cmp.Ordering.TheVariants.{Less, Equal, Greater}
use Rattle.std.proofs.lemmas.Bool.{false≢true}
use Rattle.std.proofs.lemmas.List.Elements.{filter-append}
use Rattle.prolly_entry.specs.Keys.{key_order, KeyBelow}
use Rattle.prolly_entry.specs.Pair.{Pair}
use Rattle.prolly_entry.specs.lemmas.Orders.{below_greater, greater_below, order_same}
use Rattle.prolly_tree.specs.LookUp.{find}
use Rattle.prolly_tree.specs.lemmas.Maps.{Above, Rises, above_more}
use Rattle.prolly_look_up.specs.PairsFrom.{IsLeft, pairs_from}

-- Behind keys that are below it a key is found as if they were not there.
pub find_over : (xs ys : List Pair) (key : List ℕ) → AllByRecursion (λ p. KeyBelow p.key key) xs →
    find (xs ++ ys) key ≡ find ys key
find_over [] ys key h = refl
find_over (p ∷ xs) ys key h = search (rules, find_over xs ys key h.1)

-- So it is before pairs among which it is not.
pub find_first : (xs ys : List Pair) (key : List ℕ) → find ys key ≡ None →
    find (xs ++ ys) key ≡ find xs key
find_first [] ys key h = h
find_first (p ∷ xs) ys key h = search (rules, find_first xs ys key h)

-- A number of the first list finds its element.
pub nth_front : {A : Type 0} (xs ys : List A) (n : ℕ) → n < length xs →
    slice_get (xs ++ ys) n ≡ slice_get xs n
nth_front [] ys n h = absurd (omega arith)
nth_front (x ∷ xs) ys zero h = refl
nth_front (x ∷ xs) ys (suc n) h = search (rules, nth_front xs ys n (omega arith))

-- A number behind it finds one of the second.
pub nth_back : {A : Type 0} (xs ys : List A) (n : ℕ) →
    slice_get (xs ++ ys) (length xs + n) ≡ slice_get ys n
nth_back [] ys n = let e : 0 + n ≡ n = omega arith in rw e refl
nth_back (x ∷ xs) ys n = search (rules, nth_back xs ys n)

-- The pairs from a key on, of two lists, are those of both.
pub pairs_from-append : (from : List ℕ) (xs ys : List Pair) →
    pairs_from from (xs ++ ys) ≡ pairs_from from xs ++ pairs_from from ys
pairs_from-append from xs ys = filter-append (λ p. not (is_lt (key_order p.key from))) xs ys

-- Pairs whose keys are below it are none of them.
pub none_from : (from : List ℕ) (ps : List Pair) → AllByRecursion (λ p. KeyBelow p.key from) ps →
    pairs_from from ps ≡ []
none_from from [] h = refl
none_from from (p ∷ ps) h = search (rules, none_from from ps h.1)

-- Pairs above a key are all from it on.
pub from_all : (key : List ℕ) (ps : List Pair) → Above key ps → pairs_from key ps ≡ ps
from_all key [] h = refl
from_all key (p ∷ ps) h = grind (arith, below_greater, from_all key ps h.1)

-- What is above a key is above each key that is not greater.
pub above_not : (x key : List ℕ) (ps : List Pair) → is_lt (key_order x key) ≡ false → Above x ps →
    Above key ps
above_not x key ps h k = go (key_order x key) refl h
  where
    go : (o : Ordering) → key_order x key ≡ o → is_lt o ≡ false → Above key ps
    go Less e l = absurd (false≢true (sym l))
    go Equal e l = subst (λ y. Above y ps) (order_same x key e) k
    go Greater e l = above_more key x ps (greater_below x key e) k

-- Where the first one of a map is from the key on, all are.
pub from_first : (key : List ℕ) (p : Pair) (ps : List Pair) → Rises (p ∷ ps) →
    is_lt (key_order p.key key) ≡ false → pairs_from key (p ∷ ps) ≡ p ∷ ps
from_first key p ps h here = grind (arith, from_all, above_not)

-- No bytes are left behind all of them.
pub none_left : (all : List Pair) → IsLeft all 0
none_left all = record { before = all; rest = []; are = sym (append-nil all); is = refl }
