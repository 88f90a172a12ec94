-- Keys that rise, and where a key splits them.
use Rattle.std.proofs.Common.{◌≡◌, ℕ, List, [], ◌∷◌, ◌++◌, refl, ap, subst, Bool, true, false, Ordering}
use Rattle.std.proofs.lemmas.Bool.{false≢true}
use Rattle.std.specs.Ordering.{is_eq, is_lt}
use Rattle.std.specs.declared.cmp.Ordering.TheVariants.{Less, Equal, Greater}
use Rattle.prolly_entry.specs.Keys.{KeyBelow, Rising, RisingFrom, key_order}
use Rattle.prolly_entry.specs.lemmas.Orders.{eq_true, order_same, order_trans}
use Rattle.prolly_range.specs.SortedKeys.{is_one_of, keys_above, keys_up_to}

-- Keys that rise from one on rise.
pub rising_tail : (x : List ℕ) (keys : List (List ℕ)) → RisingFrom x keys → Rising keys
rising_tail x [] h = tt
rising_tail x (k ∷ ks) h = h.1

-- The last of keys that rise do so.
pub rising_back : (xs ys : List (List ℕ)) → Rising (xs ++ ys) → Rising ys
rising_back [] ys h = h
rising_back (x ∷ xs) ys h = rising_back xs ys (rising_tail x (xs ++ ys) h)

from_front : (x : List ℕ) (xs ys : List (List ℕ)) → RisingFrom x (xs ++ ys) → RisingFrom x xs
from_front x [] ys h = tt
from_front x (k ∷ ks) ys h = (h.0, from_front k ks ys h.1)

-- The first of them do so.
pub rising_front : (xs ys : List (List ℕ)) → Rising (xs ++ ys) → Rising xs
rising_front [] ys h = tt
rising_front (x ∷ xs) ys h = from_front x xs ys h

-- An order that is less is that one.
pub is_less : (o : Ordering) → is_lt o ≡ true → o ≡ Less
is_less Less e = refl
is_less Equal e = absurd (false≢true e)
is_less Greater e = absurd (false≢true e)

-- Of keys behind one that is greater than this key none is up to it.
pub none_up_to : (key x : List ℕ) (keys : List (List ℕ)) → KeyBelow key x → RisingFrom x keys →
    keys_up_to key keys ≡ []
none_up_to key x [] h r = refl
none_up_to key x (k ∷ ks) h r =
    let below : KeyBelow key k = order_trans key x k h r.0 in
    rw below (none_up_to key k ks below r.1)

-- And all of them are above it.
pub all_above : (key x : List ℕ) (keys : List (List ℕ)) → KeyBelow key x → RisingFrom x keys →
    keys_above key keys ≡ keys
all_above key x [] h r = refl
all_above key x (k ∷ ks) h r =
    let below : KeyBelow key k = order_trans key x k h r.0 in
    rw below (ap (λ l. k ∷ l) (all_above key k ks below r.1))

-- Keys that rise are those up to a key, and behind them those above it.
pub split_keys : (key : List ℕ) (keys : List (List ℕ)) → Rising keys →
    keys ≡ keys_up_to key keys ++ keys_above key keys
split_keys key [] h = refl
split_keys key (k ∷ ks) h =
    go (is_lt (key_order key k)) refl (split_keys key ks (rising_tail k ks h))
  where
    go : (b : Bool) → is_lt (key_order key k) ≡ b →
        ks ≡ keys_up_to key ks ++ keys_above key ks →
        k ∷ ks ≡ keys_up_to key (k ∷ ks) ++ keys_above key (k ∷ ks)
    go true e others =
        let below : KeyBelow key k = is_less (key_order key k) e in
        rw (e, none_up_to key k ks below h, all_above key k ks below h) refl
    go false e others = rw e (ap (λ l. k ∷ l) others)

-- Those above a key rise.
pub rising_above : (key : List ℕ) (keys : List (List ℕ)) → Rising keys → Rising (keys_above key keys)
rising_above key keys h = rising_back (keys_up_to key keys) (keys_above key keys)
    (subst Rising (split_keys key keys h) h)

-- None of those behind a key is up to it.
pub none_behind : (key : List ℕ) (keys : List (List ℕ)) → RisingFrom key keys →
    keys_up_to key keys ≡ []
none_behind key [] h = refl
none_behind key (k ∷ ks) h = rw (h.0) (none_up_to key k ks h.0 h.1)

-- And all of them are above it.
pub all_behind : (key : List ℕ) (keys : List (List ℕ)) → RisingFrom key keys →
    keys_above key keys ≡ keys
all_behind key [] h = refl
all_behind key (k ∷ ks) h = rw (h.0) (ap (λ l. k ∷ l) (all_above key k ks h.0 h.1))

-- One of keys that rise from one on is greater than that.
pub above_one_of : (x key : List ℕ) (keys : List (List ℕ)) → RisingFrom x keys →
    is_one_of keys key ≡ true → KeyBelow x key
above_one_of x key [] h one = absurd (false≢true one)
above_one_of x key (k ∷ ks) h one =
    go (is_eq (key_order k key)) refl one (above_one_of k key ks h.1)
  where
    go : (b : Bool) → is_eq (key_order k key) ≡ b → is_one_of (k ∷ ks) key ≡ true →
        (is_one_of ks key ≡ true → KeyBelow k key) → KeyBelow x key
    go true e one later = subst (KeyBelow x) (order_same k key (eq_true (key_order k key) e)) h.0
    go false e one later = order_trans x k key h.0 (later (rw e at one))
