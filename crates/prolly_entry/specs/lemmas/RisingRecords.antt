-- Lists of records whose keys rise.
use Rattle.std.proofs.Common.{◌≡◌, ℕ, List, [], ◌∷◌, None, refl}
use Rattle.prolly_entry.specs.Keys.{KeyBelow, Rising, RisingFrom}
use Rattle.prolly_entry.specs.Overlay.{change_of}
use Rattle.prolly_entry.specs.Record.{Record, keys_of}
use Rattle.prolly_entry.specs.lemmas.Orders.{order_trans, not_eq_above}

-- Each key of the list is above x.
abbrev pub AllAbove : List ℕ → List Record → Type 0
AllAbove x [] = Unit {0}
AllAbove x (r ∷ rs) = KeyBelow x r.key × AllAbove x rs

-- Each key of the list is above all keys before it.
abbrev pub IsRising : List Record → Type 0
IsRising [] = Unit {0}
IsRising (r ∷ rs) = AllAbove r.key rs × IsRising rs

-- Keys above a key are above all keys below that one.
pub above_trans : (x y : List ℕ) (rs : List Record) → KeyBelow x y → AllAbove y rs → AllAbove x rs
above_trans x y [] h k = tt
above_trans x y (r ∷ rs) h k = (order_trans x y r.key h k.0, above_trans x y rs h k.1)

rising_from : (x : List ℕ) (rs : List Record) → RisingFrom x (keys_of rs) →
    AllAbove x rs × IsRising rs
rising_from x [] h = (tt, tt)
rising_from x (r ∷ rs) h = let more = rising_from r.key rs h.1 in
    ((h.0, above_trans x r.key rs h.0 more.0), more)

-- Where each key is above the one before it, it is above all before it.
pub is_rising : (rs : List Record) → Rising (keys_of rs) → IsRising rs
is_rising [] h = tt
is_rising (r ∷ rs) h = rising_from r.key rs h

from_rising : (x : List ℕ) (rs : List Record) → AllAbove x rs → IsRising rs →
    RisingFrom x (keys_of rs)
from_rising x [] h k = tt
from_rising x (r ∷ rs) h k = (h.0, from_rising r.key rs k.0 k.1)

-- And the other way round.
pub rising_is : (rs : List Record) → IsRising rs → Rising (keys_of rs)
rising_is [] h = tt
rising_is (r ∷ rs) h = from_rising r.key rs h.0 h.1

-- A list of keys above a key says nothing of that key.
pub found_above : (x : List ℕ) (rs : List Record) → AllAbove x rs → change_of rs x ≡ None
found_above x [] h = refl
found_above x (r ∷ rs) h = rw (not_eq_above x r.key h.0) (found_above x rs h.1)
