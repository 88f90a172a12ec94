-- A record more behind those that came, and the last one of each key.
use Rattle.std.proofs.Common.{◌≡◌, ℕ, true, false, List, [], ◌∷◌, ◌++◌, Ordering, is_lt, refl, sym}
use Rattle.std.proofs.Common.{ap, ◌∙◌, subst}
use Rattle.std.proofs.lemmas.Bool.{false≢true}
use Rattle.std.specs.Ordering.{ordering_then}
use Rattle.std.specs.declared.cmp.Ordering.TheVariants.{Less, Equal, Greater}
use Rattle.prolly_entry.specs.Keys.{KeyBelow, key_order, Rising}
use Rattle.prolly_entry.specs.Overlay.{with_record, with_record_by, with_records}
use Rattle.prolly_entry.specs.Record.{Record, keys_of}
use Rattle.prolly_entry.specs.lemmas.Orders.{below_greater, greater_below, order_self, order_trans}
use Rattle.prolly_entry.specs.lemmas.RisingRecords.{AllAbove, IsRising, is_rising, rising_is}
use Rattle.prolly_sort.specs.Overlaid.{overlaid}
use Rattle.prolly_sort.proofs.Coming.{come_to, overlaid_rises}

-- Each key of the list is below x.
abbrev AllBelow : List ℕ → List Record → Type 0
AllBelow x [] = Unit {0}
AllBelow x (s ∷ records) = KeyBelow s.key x × AllBelow x records

-- ---- one record more

with_one_more : (m records : List Record) (r : Record) →
    with_records m (records ++ r ∷ []) ≡ with_record r (with_records m records)
with_one_more m [] r = refl
with_one_more m (s ∷ records) r = with_one_more (with_record s m) records r

-- One record more is put to what came before.
pub one_more : (records : List Record) (r : Record) →
    overlaid (records ++ r ∷ []) ≡ with_record r (overlaid records)
one_more records r = come_to (records ++ r ∷ []) ∙ with_one_more [] records r ∙
    ap (with_record r) (sym (come_to records))

put_behind : (r : Record) (m : List Record) → AllBelow r.key m → with_record r m ≡ m ++ r ∷ []
put_behind r [] h = refl
put_behind r (s ∷ m) h = ap (λ o. with_record_by o r s m (with_record r m))
    (below_greater s.key r.key h.0) ∙ ap (λ rs. s ∷ rs) (put_behind r m h.1)

put_over : (r s : Record) (m : List Record) → AllBelow r.key m → key_order r.key s.key ≡ Equal →
    with_record r (m ++ s ∷ []) ≡ m ++ r ∷ []
put_over r s [] h e = ap (λ o. with_record_by o r s [] (r ∷ [])) e
put_over r s (t ∷ m) h e = ap (λ o. with_record_by o r t (m ++ s ∷ []) (with_record r (m ++ s ∷ [])))
    (below_greater t.key r.key h.0) ∙ ap (λ rs. t ∷ rs) (put_over r s m h.1 e)

-- ---- all but the last are below the last

last_above : (x : List ℕ) (m : List Record) (s : Record) → AllAbove x (m ++ s ∷ []) →
    KeyBelow x s.key
last_above x [] s h = h.0
last_above x (t ∷ m) s h = last_above x m s h.1

below_last : (m : List Record) (s : Record) → IsRising (m ++ s ∷ []) → AllBelow s.key m
below_last [] s h = tt
below_last (t ∷ m) s h = (last_above t.key m s h.0, below_last m s h.1)

below_more : (x y : List ℕ) (m : List Record) → KeyBelow x y → AllBelow x m → AllBelow y m
below_more x y [] h k = tt
below_more x y (t ∷ m) h k = (order_trans t.key x y k.0 h, below_more x y m h k.1)

all_below : (x : List ℕ) (m : List Record) (s : Record) → KeyBelow s.key x → AllBelow x m →
    AllBelow x (m ++ s ∷ [])
all_below x [] s h k = (h, tt)
all_below x (t ∷ m) s h k = (k.0, all_below x m s h k.1)

rises_to_last : (records m : List Record) (s : Record) → m ++ s ∷ [] ≡ overlaid records →
    IsRising (m ++ s ∷ [])
rises_to_last records m s e = is_rising (m ++ s ∷ [])
    (subst (λ rs. Rising (keys_of rs)) (sym e) (overlaid_rises records))

less_from : (x y : List ℕ) → is_lt (key_order x y) ≡ true → KeyBelow x y
less_from x y h = go (key_order x y) refl h
  where
    go : (o : Ordering) → key_order x y ≡ o → is_lt o ≡ true → KeyBelow x y
    go Less e k = e
    go Equal e k = absurd (false≢true k)
    go Greater e k = absurd (false≢true k)

-- Where a key is not less than another, nor the other less than it, they compare as equal.
pub equal_from : (x y : List ℕ) → is_lt (key_order x y) ≡ false → is_lt (key_order y x) ≡ false →
    key_order x y ≡ Equal
equal_from x y h k = go (key_order x y) refl h
  where
    go : (o : Ordering) → key_order x y ≡ o → is_lt o ≡ false → key_order x y ≡ Equal
    go Less e l = absurd (false≢true (sym l))
    go Equal e l = e
    go Greater e l = absurd (false≢true (sym k ∙ ap is_lt (greater_below x y e)))

-- What does not come before another by its key and its number has no lesser key.
pub before_below : (o r : Ordering) → is_lt (ordering_then o r) ≡ false → is_lt o ≡ false
before_below Less r e = e
before_below Equal r e = refl
before_below Greater r e = refl

-- Behind a record of a lower key, the next one comes behind all.
pub kept_with_next : (records m : List Record) (s r : Record) → m ++ s ∷ [] ≡ overlaid records →
    is_lt (key_order s.key r.key) ≡ true →
    (m ++ s ∷ []) ++ r ∷ [] ≡ overlaid (records ++ r ∷ [])
kept_with_next records m s r e h =
    let below : KeyBelow s.key r.key = less_from s.key r.key h in
    sym (one_more records r ∙ ap (with_record r) (sym e) ∙
    put_behind r (m ++ s ∷ []) (all_below r.key m s below
    (below_more s.key r.key m below (below_last m s (rises_to_last records m s e)))))

-- Behind a record of the same key, the next one takes its place.
pub kept_in_its_place : (records m : List Record) (s r : Record) → m ++ s ∷ [] ≡ overlaid records →
    s.key ≡ r.key → m ++ r ∷ [] ≡ overlaid (records ++ r ∷ [])
kept_in_its_place records m s r e same =
    sym (one_more records r ∙ ap (with_record r) (sym e) ∙
    put_over r s m (subst (λ x. AllBelow x m) same (below_last m s (rises_to_last records m s e)))
    (ap (key_order r.key) same ∙ order_self r.key))

-- ---- keys that rise with one more

rises_above : (m : List Record) (s : Record) → IsRising m → AllBelow s.key m → IsRising (m ++ s ∷ [])
rises_above [] s h k = (tt, tt)
rises_above (t ∷ m) s h k = (above_all t.key m s h.0 k.0, rises_above m s h.1 k.1)
  where
    above_all : (x : List ℕ) (rs : List Record) (q : Record) → AllAbove x rs → KeyBelow x q.key →
        AllAbove x (rs ++ q ∷ [])
    above_all x [] q a b = (b, tt)
    above_all x (u ∷ rs) q a b = (a.0, above_all x rs q a.1 b)

-- A record rises behind records that rise, where its key is greater than the last one's.
pub rises_behind : (m : List Record) (s r : Record) → Rising (keys_of (m ++ s ∷ [])) →
    is_lt (key_order s.key r.key) ≡ true → Rising (keys_of ((m ++ s ∷ []) ++ r ∷ []))
rises_behind m s r h k =
    let below : KeyBelow s.key r.key = less_from s.key r.key k in
    let rising : IsRising (m ++ s ∷ []) = is_rising (m ++ s ∷ []) h in
    rising_is ((m ++ s ∷ []) ++ r ∷ []) (rises_above (m ++ s ∷ []) r rising
    (all_below r.key m s below (below_more s.key r.key m below (below_last m s rising))))

rising_front : (m : List Record) (r : Record) → IsRising (m ++ r ∷ []) → IsRising m
rising_front [] r h = tt
rising_front (t ∷ m) r h = (above_front t.key m r h.0, rising_front m r h.1)
  where
    above_front : (x : List ℕ) (rs : List Record) (q : Record) → AllAbove x (rs ++ q ∷ []) → AllAbove x rs
    above_front x [] q a = tt
    above_front x (u ∷ rs) q a = (a.0, above_front x rs q a.1)

-- Where records rise with one more behind them, they rise.
pub rise_before : (m : List Record) (r : Record) → Rising (keys_of (m ++ r ∷ [])) → Rising (keys_of m)
rise_before m r h = rising_is m (rising_front m r (is_rising (m ++ r ∷ []) h))

last_below : (x : List ℕ) (m : List Record) (s : Record) → AllBelow x (m ++ s ∷ []) → KeyBelow s.key x
last_below x [] s h = h.0
last_below x (t ∷ m) s h = last_below x m s h.1

-- And the last key is less than its key.
pub last_less : (m : List Record) (s r : Record) → Rising (keys_of ((m ++ s ∷ []) ++ r ∷ [])) →
    is_lt (key_order s.key r.key) ≡ true
last_less m s r h = ap is_lt (last_below r.key m s
    (below_last (m ++ s ∷ []) r (is_rising ((m ++ s ∷ []) ++ r ∷ []) h)))
