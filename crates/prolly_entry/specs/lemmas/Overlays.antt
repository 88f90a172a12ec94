-- Overlays of lists of records.
use Rattle.std.proofs.Common.{◌≡◌, ℕ, Bool, true, false, cond, List, [], ◌∷◌, ◌++◌, Option, Some}
use Rattle.std.proofs.Common.{None, Ordering, refl, sym, ap, ◌∙◌, subst, append_assoc}
use Rattle.std.specs.declared.cmp.Ordering.TheVariants.{Less, Equal, Greater}
use Rattle.std.specs.Ordering.{is_eq}
use Rattle.std.proofs.lemmas.Bool.{false≢true}
use Rattle.std.proofs.lemmas.List.Concat.{flat_map-append}
use Rattle.std.specs.List.{flat_map}
use Rattle.prolly_entry.specs.Record.{Record}
use Rattle.prolly_entry.specs.Pair.{Pair}
use Rattle.prolly_entry.specs.Keys.{key_order, KeyBelow, Rising, RisingFrom}
use Rattle.prolly_entry.specs.Overlay.{change_of, or_else, last_change_of, with_record_by}
use Rattle.prolly_entry.specs.Overlay.{with_record, with_records, raw_overlay, pairs_put}
use Rattle.prolly_entry.specs.Overlay.{pairs_of_change, OverlayIsMap, OneRawOverlay}
use Rattle.prolly_entry.specs.Overlay.{DivisionKeepsOverlay, AllRising, OverlayStep, NotBelow}
use Rattle.prolly_entry.specs.Overlay.{rest_after}
use Rattle.std.specs.List.{AllByRecursion}
use Rattle.std.proofs.Common.{is_lt, map}
use Rattle.prolly_entry.specs.lemmas.Orders.{order_self, order_same, greater_below, less_self}
use Rattle.prolly_entry.specs.lemmas.Orders.{eq_true}
use Rattle.prolly_entry.specs.lemmas.RisingRecords.{AllAbove, IsRising, above_trans, is_rising}
use Rattle.prolly_entry.specs.lemmas.RisingRecords.{rising_is, found_above}

-- Where nothing else is said, the first word stays.
pub or_none : {A : Type 0} (x : Option A) → or_else x None ≡ x
or_none None = refl
or_none (Some x) = refl

-- Of three words the first that says something counts, however they are joined.
pub or_assoc : {A : Type 0} (x y z : Option A) → or_else (or_else x y) z ≡ or_else x (or_else y z)
or_assoc None y z = refl
or_assoc (Some x) y z = refl

-- ---- two rising lists with the same look-ups are the same

-- A value is not none.
pub some_none : {A : Type 0} (x : A) → Some x ≡ None → ⊥
some_none x h = cc

some_same : {A : Type 0} (x y : A) → Some x ≡ Some y → x ≡ y
some_same x y h = cc

found_first : (r : Record) (rs : List Record) → change_of (r ∷ rs) r.key ≡ Some r.value
found_first r rs = let e : is_eq (key_order r.key r.key) ≡ true = ap is_eq (order_self r.key) in
    rw e refl

found_later : (r : Record) (rs : List Record) (key : List ℕ) → is_eq (key_order r.key key) ≡ false →
    change_of (r ∷ rs) key ≡ change_of rs key
found_later r rs key e = rw e refl

same_record : (r s : Record) → r.key ≡ s.key → r.value ≡ s.value → r ≡ s
same_record r s e f = let P : List ℕ → Option (List ℕ) → Type 0 =
    λ k v. ◌≡◌ {A = Record} r (record { key = k; value = v }) in
    subst (λ v. P s.key v) f (subst (λ k. P k r.value) e refl)

-- Rising lists that say the same of each key are the same.
pub same_lookups : (m n : List Record) → IsRising m → IsRising n →
    ((key : List ℕ) → change_of m key ≡ change_of n key) → m ≡ n
same_lookups [] [] h k same = refl
same_lookups [] (s ∷ n) h k same = absurd (some_none s.value (sym (found_first s n) ∙
    sym (same s.key)))
same_lookups (r ∷ m) [] h k same = absurd (some_none r.value (sym (found_first r m) ∙ same r.key))
same_lookups (r ∷ m) (s ∷ n) h k same = go (key_order r.key s.key) refl
    (λ e rest. same_lookups m n h.1 k.1 rest)
  where
    go : (o : Ordering) → key_order r.key s.key ≡ o →
        (r.key ≡ s.key → ((key : List ℕ) → change_of m key ≡ change_of n key) → m ≡ n) →
        r ∷ m ≡ s ∷ n
    go Less e more = absurd (some_none r.value (sym (found_first r m) ∙ same r.key
        ∙ found_above r.key (s ∷ n) (e, above_trans r.key s.key n e k.0)))
    go Greater e more = let b : KeyBelow s.key r.key = greater_below r.key s.key e in
        absurd (some_none s.value (sym (found_first s n) ∙ sym (same s.key) ∙
        found_above s.key (r ∷ m) (b, above_trans s.key r.key m b h.0)))
    go Equal e more =
        let key : r.key ≡ s.key = order_same r.key s.key e in
        let value : r.value ≡ s.value = some_same r.value s.value (sym (found_first r m) ∙
        same r.key ∙ ap (change_of (s ∷ n)) key ∙ found_first s n) in
        let rest : (q : List ℕ) → (b : Bool) → is_eq (key_order r.key q) ≡ b →
        change_of m q ≡ change_of n q = λ q. elim [
          | true ↦ λ t. let at : r.key ≡ q = order_same r.key q (eq_true (key_order r.key q) t) in
              subst (λ x. change_of m x ≡ change_of n x) at (found_above r.key m h.0 ∙
              sym (subst (λ x. change_of n x ≡ None) (sym key) (found_above s.key n k.0)))
          | false ↦ λ f. sym (found_later r m q f) ∙ same q ∙
              found_later s n q (subst (λ x. is_eq (key_order x q) ≡ false) key f)
        ] in
        ap (λ x. x ∷ m) (same_record r s key value) ∙
        ap (λ x. s ∷ x) (more key (λ q. rest q (is_eq (key_order r.key q)) refl))

-- ---- a record with_record into a list

above_put : (x : List ℕ) (r : Record) (m : List Record) → KeyBelow x r.key → AllAbove x m →
    AllAbove x (with_record r m)
above_put x r [] h k = (h, tt)
above_put x r (s ∷ m) h k = go (key_order r.key s.key) (above_put x r m h k.1)
  where
    go : (o : Ordering) → AllAbove x (with_record r m) →
        AllAbove x (with_record_by o r s m (with_record r m))
    go Less more = (h, k)
    go Equal more = (h, k.1)
    go Greater more = (k.0, more)

rising_put : (r : Record) (m : List Record) → IsRising m → IsRising (with_record r m)
rising_put r [] h = (tt, tt)
rising_put r (s ∷ m) h = go (key_order r.key s.key) refl (rising_put r m h.1)
  where
    go : (o : Ordering) → key_order r.key s.key ≡ o → IsRising (with_record r m) →
        IsRising (with_record_by o r s m (with_record r m))
    go Less e more = ((e, above_trans r.key s.key m e h.0), h)
    go Equal e more = (subst (λ x. AllAbove x m) (sym (order_same r.key s.key e)) h.0, h.1)
    go Greater e more = (above_put s.key r m (greater_below r.key s.key e) h.0, more)

found_put : (r : Record) (m : List Record) (key : List ℕ) →
    change_of (with_record r m) key ≡ cond (is_eq (key_order r.key key)) (Some r.value)
    (change_of m key)
found_put r [] key = refl
found_put r (s ∷ m) key = go (key_order r.key s.key) refl (found_put r m key)
  where
    swap : (a b : Bool) → (a ≡ true → b ≡ true → ⊥) →
        cond a (Some s.value) (cond b (Some r.value) (change_of m key)) ≡ cond b (Some r.value)
        (cond a (Some s.value) (change_of m key))
    swap true true h = absurd (h refl refl)
    swap true false h = refl
    swap false b h = refl

    drop_same : (a : Bool) → cond a (Some r.value) (change_of m key) ≡ cond a (Some r.value)
        (cond a (Some s.value) (change_of m key))
    drop_same true = refl
    drop_same false = refl

    go : (o : Ordering) → key_order r.key s.key ≡ o →
        change_of (with_record r m) key ≡ cond (is_eq (key_order r.key key)) (Some r.value)
        (change_of m key) →
        change_of (with_record_by o r s m (with_record r m)) key ≡
        cond (is_eq (key_order r.key key)) (Some r.value) (change_of (s ∷ m) key)
    go Less e more = refl
    go Equal e more = drop_same (is_eq (key_order r.key key))
        ∙ ap (λ x. cond (is_eq (key_order r.key key)) (Some r.value)
        (cond (is_eq (key_order x key)) (Some s.value) (change_of m key)))
        (order_same r.key s.key e)
    go Greater e more = ap (cond (is_eq (key_order s.key key)) (Some s.value)) more
        ∙ swap (is_eq (key_order s.key key)) (is_eq (key_order r.key key)) (λ h k.
        let b : KeyBelow s.key r.key = greater_below r.key s.key e in
        let same : s.key ≡ r.key = order_same s.key key (eq_true (key_order s.key key) h) ∙
        sym (order_same r.key key (eq_true (key_order r.key key) k)) in
        less_self r.key (subst (λ x. KeyBelow x r.key) same b))

-- ---- all records with_record

rising_put_all : (m rs : List Record) → IsRising m → IsRising (with_records m rs)
rising_put_all m [] h = h
rising_put_all m (r ∷ rs) h = rising_put_all (with_record r m) rs (rising_put r m h)

-- what the last record of the key says
last_in : List Record → List ℕ → Option (Option (List ℕ))
last_in [] key = None
last_in (r ∷ rs) key = or_else (last_in rs key)
    (cond (is_eq (key_order r.key key)) (Some r.value) None)

or_cond : {A : Type 0} (a c : Option A) (b : Bool) (v : A) →
    or_else a (cond b (Some v) c) ≡ or_else (or_else a (cond b (Some v) None)) c
or_cond None c true v = refl
or_cond None c false v = refl
or_cond (Some x) c b v = refl

found_put_all : (m rs : List Record) (key : List ℕ) →
    change_of (with_records m rs) key ≡ or_else (last_in rs key) (change_of m key)
unfolding last_in
found_put_all m [] key = refl
found_put_all m (r ∷ rs) key = found_put_all (with_record r m) rs key ∙
    ap (or_else (last_in rs key)) (found_put r m key)
    ∙ or_cond (last_in rs key) (change_of m key) (is_eq (key_order r.key key)) r.value

last_in_append : (xs ys : List Record) (key : List ℕ) →
    last_in (xs ++ ys) key ≡ or_else (last_in ys key) (last_in xs key)
unfolding last_in
last_in_append [] ys key = sym (or_none (last_in ys key))
last_in_append (r ∷ xs) ys key = ap (λ o. or_else o
    (cond (is_eq (key_order r.key key)) (Some r.value) None)) (last_in_append xs ys key)
    ∙ or_assoc (last_in ys key) (last_in xs key)
    (cond (is_eq (key_order r.key key)) (Some r.value) None)

last_in_rising : (rs : List Record) (key : List ℕ) → IsRising rs → last_in rs key ≡ change_of rs key
unfolding last_in
last_in_rising [] key h = refl
last_in_rising (r ∷ rs) key h = ap (λ o. or_else o
    (cond (is_eq (key_order r.key key)) (Some r.value) None)) (last_in_rising rs key h.1)
    ∙ go (is_eq (key_order r.key key)) refl
  where
    go : (b : Bool) → is_eq (key_order r.key key) ≡ b →
        or_else (change_of rs key) (cond b (Some r.value) None) ≡ cond b (Some r.value)
        (change_of rs key)
    go true e = let none : change_of rs key ≡ None =
        subst (λ x. change_of rs x ≡ None) (order_same r.key key (eq_true (key_order r.key key) e))
        (found_above r.key rs h.0) in
        ap (λ o. or_else o (Some r.value)) none
    go false e = or_none (change_of rs key)

last_in_nil : (key : List ℕ) → last_in [] key ≡ None
unfolding last_in
last_in_nil key = refl

last_in_lists : (lists : List (List Record)) (key : List ℕ) → AllRising lists →
    last_in (flat_map (λ records. records) lists) key ≡ last_change_of lists key
last_in_lists [] key h = last_in_nil key
last_in_lists (l ∷ ls) key h = last_in_append l (flat_map (λ records. records) ls) key
    ∙ ap (λ o. or_else o (last_in l key)) (last_in_lists ls key h.1)
    ∙ ap (or_else (last_change_of ls key)) (last_in_rising l key (is_rising l h.0))

-- A raw overlay says of a key what the last list that has it says.
pub found_raw : (lists : List (List Record)) (key : List ℕ) → AllRising lists →
    change_of (raw_overlay lists) key ≡ last_change_of lists key
unfolding raw_overlay
found_raw lists key h = found_put_all [] (flat_map (λ records. records) lists) key
    ∙ or_none (last_in (flat_map (λ records. records) lists) key) ∙ last_in_lists lists key h

-- A raw overlay rises, whatever the lists.
pub rising_raw : (lists : List (List Record)) → IsRising (raw_overlay lists)
unfolding raw_overlay
rising_raw lists = rising_put_all [] (flat_map (λ records. records) lists) tt

-- Lists with rising keys have one raw overlay.
pub overlay_is : OneRawOverlay
overlay_is lists h = (
  record {
    rising = rising_is (raw_overlay lists) (rising_raw lists);
    is = λ key. found_raw lists key h;
  },
  λ m k. same_lookups m (raw_overlay lists) (is_rising m k.rising) (rising_raw lists)
      (λ key. k.is key ∙ sym (found_raw lists key h)),
)

-- To divide a list leaves the overlay as it was.
pub overlay_of_parts : DivisionKeepsOverlay
unfolding raw_overlay
overlay_of_parts before after x y h =
    let all : flat_map (λ records. records) (before ++ x ∷ y ∷ after) ≡
    flat_map (λ records. records) (before ++ (x ++ y) ∷ after) =
    flat_map-append (λ records. records) before (x ∷ y ∷ after)
    ∙ ap (λ a. flat_map (λ records. records) before ++ a)
    (sym (append_assoc x y (flat_map (λ records. records) after)))
    ∙ sym (flat_map-append (λ records. records) before ((x ++ y) ∷ after)) in
    ap (λ rs. pairs_put (with_records [] rs)) all

-- ---- the least key first

above_put_all : (x : List ℕ) (m rs : List Record) → AllAbove x m → AllAbove x rs →
    AllAbove x (with_records m rs)
above_put_all x m [] h k = h
above_put_all x m (r ∷ rs) h k = above_put_all x (with_record r m) rs (above_put x r m k.0 h) k.1

above_append : (x : List ℕ) (a b : List Record) → AllAbove x a → AllAbove x b → AllAbove x (a ++ b)
above_append x [] b h k = k
above_append x (r ∷ a) b h k = (h.0, above_append x a b h.1 k)

not_less_below : (x y : List ℕ) → is_lt (key_order x y) ≡ false → is_eq (key_order x y) ≡ false →
    KeyBelow y x
not_less_below x y h k = go (key_order x y) refl
  where
    go : (o : Ordering) → key_order x y ≡ o → KeyBelow y x
    go Less e = absurd (false≢true (sym h ∙ ap is_lt e))
    go Equal e = absurd (false≢true (sym k ∙ ap is_eq e))
    go Greater e = greater_below x y e

above_rest : (key : List ℕ) (rs : List Record) → IsRising rs → NotBelow key rs →
    AllAbove key (rest_after key rs)
above_rest key [] h k = tt
above_rest key (r ∷ rs) h k = go (is_eq (key_order r.key key)) refl
  where
    go : (b : Bool) → is_eq (key_order r.key key) ≡ b → AllAbove key (cond b rs (r ∷ rs))
    go true e = subst (λ x. AllAbove x rs) (order_same r.key key (eq_true (key_order r.key key) e))
        h.0
    go false e = let b : KeyBelow key r.key = not_less_below r.key key k e in
        (b, above_trans key r.key rs b h.0)

rising_rest : (key : List ℕ) (rs : List Record) → IsRising rs → IsRising (rest_after key rs)
rising_rest key [] h = tt
rising_rest key (r ∷ rs) h = go (is_eq (key_order r.key key))
  where
    go : (b : Bool) → IsRising (cond b rs (r ∷ rs))
    go true = h.1
    go false = h

found_rest : (key q : List ℕ) (rs : List Record) → is_eq (key_order key q) ≡ false →
    change_of (rest_after key rs) q ≡ change_of rs q
found_rest key q [] e = refl
found_rest key q (r ∷ rs) e = go (is_eq (key_order r.key key)) refl
  where
    go : (b : Bool) → is_eq (key_order r.key key) ≡ b →
        change_of (cond b rs (r ∷ rs)) q ≡ change_of (r ∷ rs) q
    go true f = sym (found_later r rs q (subst (λ x. is_eq (key_order x q) ≡ false)
        (sym (order_same r.key key (eq_true (key_order r.key key) f))) e))
    go false f = refl

above_rests : (key : List ℕ) (lists : List (List Record)) → AllRising lists →
    AllByRecursion (NotBelow key) lists → AllAbove key
    (flat_map (λ rs. rs) (map (rest_after key) lists))
above_rests key [] h k = tt
above_rests key (l ∷ ls) h k = above_append key (rest_after key l)
    (flat_map (λ rs. rs) (map (rest_after key) ls)) (above_rest key l (is_rising l h.0) k.0)
    (above_rests key ls h.1 k.1)

rising_rests : (key : List ℕ) (lists : List (List Record)) → AllRising lists →
    AllRising (map (rest_after key) lists)
rising_rests key [] h = tt
rising_rests key (l ∷ ls) h = (
  rising_is (rest_after key l) (rising_rest key l (is_rising l h.0)),
  rising_rests key ls h.1,
)

last_found_rests : (key q : List ℕ) (lists : List (List Record)) → is_eq (key_order key q) ≡ false →
    last_change_of (map (rest_after key) lists) q ≡ last_change_of lists q
last_found_rests key q [] e = refl
last_found_rests key q (l ∷ ls) e = ap (λ o. or_else o (change_of (rest_after key l) q))
    (last_found_rests key q ls e) ∙ ap (or_else (last_change_of ls q)) (found_rest key q l e)

above_raw : (key : List ℕ) (lists : List (List Record)) → AllAbove key (flat_map (λ rs. rs) lists) →
    AllAbove key (raw_overlay lists)
unfolding raw_overlay
above_raw key lists h = above_put_all key [] (flat_map (λ rs. rs) lists) tt h

-- A raw overlay begins with the last record of the least key.
pub merge_step : OverlayStep
merge_step lists key value h k e =
    let rests = map (rest_after key) lists in
    let first : Record = record { key = key; value = value } in
    same_lookups (raw_overlay lists) (first ∷ raw_overlay rests) (rising_raw lists)
    (above_raw key rests (above_rests key lists h k), rising_raw rests)
    (λ q. found_raw lists q h ∙ go q (is_eq (key_order key q)) refl)
  where
    go : (q : List ℕ) (b : Bool) → is_eq (key_order key q) ≡ b →
        last_change_of lists q ≡ change_of (record { key = key; value = value } ∷ raw_overlay
        (map (rest_after key) lists)) q
    go q true f = subst (λ x. last_change_of lists x ≡ Some value)
        (order_same key q (eq_true (key_order key q) f)) e
        ∙ sym (ap (λ b. cond b (Some value) (change_of (raw_overlay (map (rest_after key) lists))
        q)) f)
    go q false f = sym (last_found_rests key q lists f) ∙
        sym (found_raw (map (rest_after key) lists) q (rising_rests key lists h))
        ∙ sym (ap (λ b. cond b (Some value) (change_of (raw_overlay (map (rest_after key) lists))
        q)) f)

-- ---- the pairs of an overlay

abbrev keys_put : List Pair → List (List ℕ)
keys_put pairs = map (λ p. p.key) pairs

from_change : (x key : List ℕ) (value : Option (List ℕ)) (ps : List Pair) → KeyBelow x key →
    RisingFrom x (keys_put ps) → RisingFrom key (keys_put ps) →
    RisingFrom x (keys_put (pairs_of_change key value ++ ps))
from_change x key None ps h k l = k
from_change x key (Some value) ps h k l = (h, l)

put_from : (x : List ℕ) (rs : List Record) → AllAbove x rs → IsRising rs →
    RisingFrom x (keys_put (pairs_put rs))
put_from x [] h k = tt
put_from x (r ∷ rs) h k = from_change x r.key r.value (pairs_put rs) h.0 (put_from x rs h.1 k.1)
    (put_from r.key rs k.0 k.1)

rising_change : (key : List ℕ) (value : Option (List ℕ)) (ps : List Pair) → Rising (keys_put ps) →
    RisingFrom key (keys_put ps) →
    Rising (keys_put (pairs_of_change key value ++ ps))
rising_change key None ps h k = h
rising_change key (Some value) ps h k = k

put_rising : (rs : List Record) → IsRising rs → Rising (keys_put (pairs_put rs))
put_rising [] h = tt
put_rising (r ∷ rs) h = rising_change r.key r.value (pairs_put rs) (put_rising rs h.1)
    (put_from r.key rs h.0 h.1)

-- An overlay is a map.
pub overlay_rises : OverlayIsMap
overlay_rises lists = put_rising (raw_overlay lists) (rising_raw lists)
