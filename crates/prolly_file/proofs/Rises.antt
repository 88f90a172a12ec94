-- Pairs whose keys rise, one pair after another.
use Rattle.std.proofs.Common.{◌≡◌, ℕ, ◌+◌, ◌-◌, ◌<◌, true, false, List, [], ◌∷◌, ◌++◌, length, take}
use Rattle.std.proofs.Common.{get_or, refl, sym, ap, ◌∙◌, subst, arith}
use Rattle.std.specs.declared.cmp.Ordering.{Ordering}
use Rattle.std.specs.declared.cmp.Ordering.TheVariants.{Less, Equal, Greater}
use Rattle.std.specs.Ordering.{is_lt}
use Rattle.std.proofs.lemmas.List.{take_more, map-append}
use Rattle.prolly_entry.specs.Keys.{key_order, KeyBelow, Rising, RisingFrom}
use Rattle.prolly_entry.specs.Pair.{Pair}
use Rattle.prolly_file.specs.Scratch.{keys_in, FallsAt}

less_is : (o : Ordering) → is_lt o ≡ true → o ≡ Less
less_is Less e = refl
less_is Equal e = cc
less_is Greater e = cc

from_push : (w : List ℕ) (ks : List (List ℕ)) (x y : List ℕ) → RisingFrom w (ks ++ x ∷ []) →
    KeyBelow x y → RisingFrom w ((ks ++ x ∷ []) ++ y ∷ [])
from_push w [] x y h k = (h.0, (k, tt))
from_push w (z ∷ ks) x y h k = (h.0, from_push z ks x y h.1 k)

rising_push : (ks : List (List ℕ)) (x y : List ℕ) → Rising (ks ++ x ∷ []) → KeyBelow x y →
    Rising ((ks ++ x ∷ []) ++ y ∷ [])
rising_push [] x y h k = (k, tt)
rising_push (z ∷ ks) x y h k = from_push z ks x y h k

from_last : (w : List ℕ) (ks : List (List ℕ)) (x y : List ℕ) →
    RisingFrom w ((ks ++ x ∷ []) ++ y ∷ []) → KeyBelow x y
from_last w [] x y h = h.1.0
from_last w (z ∷ ks) x y h = from_last z ks x y h.1

rising_last : (ks : List (List ℕ)) (x y : List ℕ) → Rising ((ks ++ x ∷ []) ++ y ∷ []) → KeyBelow x y
rising_last [] x y h = h.0
rising_last (z ∷ ks) x y h = from_last z ks x y h

-- the keys of the first n + 1 pairs, where the pair at place n is p, and that before it q
one_key : (ps : List Pair) (n : ℕ) (p : Pair) → n < length ps → p ≡ get_or ps n p →
    keys_in (take (n + 1) ps) ≡ keys_in (take n ps) ++ p.key ∷ []
one_key ps n p h e =
    ap keys_in (take_more ps n p h) ∙ (map-append (λ q. q.key) (take n ps) (get_or ps n p ∷ []) ∙
    ap (λ q. keys_in (take n ps) ++ q.key ∷ []) (sym e))

two_keys : (ps : List Pair) (n : ℕ) (q p : Pair) → 0 < n → n < length ps → q ≡ get_or ps (n - 1) q →
    p ≡ get_or ps n p →
    keys_in (take (n + 1) ps) ≡ (keys_in (take (n - 1) ps) ++ q.key ∷ []) ++ p.key ∷ []
two_keys ps n q p some h e f =
    let there : n - 1 + 1 ≡ n = omega arith in
    one_key ps n p h f ∙ ap (λ ks. ks ++ p.key ∷ []) (ap (λ k. keys_in (take k ps)) (sym there) ∙
    one_key ps (n - 1) q (omega arith) e)

before_is : (ps : List Pair) (n : ℕ) (q : Pair) → 0 < n → n < length ps → q ≡ get_or ps (n - 1) q →
    keys_in (take n ps) ≡ keys_in (take (n - 1) ps) ++ q.key ∷ []
before_is ps n q some h e = let there : n - 1 + 1 ≡ n = omega arith in
    ap (λ k. keys_in (take k ps)) (sym there) ∙ one_key ps (n - 1) q (omega arith) e

pub rises_on : (ps : List Pair) (n : ℕ) (q p : Pair) → 0 < n → n < length ps →
    q ≡ get_or ps (n - 1) q → p ≡ get_or ps n p → is_lt (key_order q.key p.key) ≡ true →
    Rising (keys_in (take n ps)) → Rising (keys_in (take (n + 1) ps))
rises_on ps n q p some h e f less k =
    subst Rising (sym (two_keys ps n q p some h e f))
    (rising_push (keys_in (take (n - 1) ps)) q.key p.key
    (subst Rising (before_is ps n q some h e) k) (less_is (key_order q.key p.key) less))

pub falls_there : (ps : List Pair) (n : ℕ) (q p : Pair) → 0 < n → n < length ps →
    q ≡ get_or ps (n - 1) q → p ≡ get_or ps n p → is_lt (key_order q.key p.key) ≡ false →
    Rising (keys_in (take n ps)) → FallsAt ps n
falls_there ps n q p some h e f more k = record {
  within = h;
  rising = k;
  falls = λ r. apart (sym more ∙ ap is_lt (rising_last (keys_in (take (n - 1) ps)) q.key p.key
      (subst Rising (two_keys ps n q p some h e f) r)));
}
  where
    apart : false ≡ true → ⊥
    apart e = cc
