-- A sorted run behind records whose keys are less.
use Rattle.std.proofs.Common.{◌≡◌, ℕ, ◌+◌, true, List, [], ◌∷◌, ◌++◌, Some, None}
use Rattle.std.proofs.Common.{length, min, flat_map, refl, sym, ap, subst, ◌∙◌, append-nil, arith}
use Rattle.std.proofs.Common.{is_lt, length-append, slice_get, ◌-◌}
use Rattle.std.proofs.lemmas.List.{map_push}
use Rattle.std.proofs.lemmas.List.Concat.{flat_map-append}
use Rattle.std.specs.declared.cmp.Ordering.{Ordering}
use Rattle.std.specs.declared.cmp.Ordering.TheVariants.{Less, Equal, Greater}
use Rattle.prolly_entry.specs.Keys.{key_order, Rising}
use Rattle.prolly_entry.specs.Overlay.{raw_overlay}
use Rattle.prolly_entry.specs.Position.{Position, is_before, last_position}
use Rattle.prolly_entry.specs.Record.{Record, keys_of}
use Rattle.prolly_entry.specs.Spelling.{record_spelling}
use Rattle.prolly_sort.specs.declared.place.Place.{Place}
use Rattle.prolly_sort.specs.Overlaid.{overlaid, written}
use Rattle.prolly_sort.specs.Place.{record_in, records_in}
use Rattle.prolly_sort.specs.Shelf.{counted, first_position, position_behind}
use Rattle.prolly_sort.proofs.Coming.{come_to, overlaid_rises, parts_come, rising_stay}
use Rattle.prolly_sort.proofs.Lasting.{last_ends}

-- Lists are overlaid as all their records, one after another.
pub as_all : (lists : List (List Record)) →
    raw_overlay lists ≡ overlaid (flat_map (λ records. records) lists)
unfolding raw_overlay
as_all lists = sym (come_to (flat_map (λ records. records) lists))

-- Two parts come to what both come to.
pub two_come : (xs ys : List Record) → overlaid (xs ++ ys) ≡ overlaid (overlaid xs ++ overlaid ys)
two_come xs ys =
    ap (λ zs. overlaid (xs ++ zs)) (sym (append-nil ys)) ∙ sym (parts_come (xs ∷ ys ∷ [])) ∙
    as_all (overlaid xs ∷ overlaid ys ∷ []) ∙
    ap (λ zs. overlaid (overlaid xs ++ zs)) (append-nil (overlaid ys))

-- Where the keys of a part are greater than those of the part before it, what it comes to stands
-- behind what that comes to.
pub stands_behind : (xs ys : List Record) → Rising (keys_of (overlaid xs ++ overlaid ys)) →
    overlaid (xs ++ ys) ≡ overlaid xs ++ overlaid ys
stands_behind xs ys h = two_come xs ys ∙ rising_stay (overlaid xs ++ overlaid ys) h

-- ---- keys that rise behind others

is_less : (o : Ordering) → is_lt o ≡ true → o ≡ Less
is_less Less h = refl
is_less Equal h = cc
is_less Greater h = cc

rise_on : (xs : List Record) (y : Record) (ys : List Record) → Rising (keys_of xs) →
    Rising (keys_of (y ∷ ys)) → is_before (last_position xs) (Some y.key) ≡ true →
    Rising (keys_of (xs ++ y ∷ ys))
rise_on [] y ys h k b = k
rise_on (x ∷ []) y ys h k b = (is_less (key_order x.key y.key) b, k)
rise_on (x ∷ z ∷ xs) y ys h k b = (h.0, rise_on (z ∷ xs) y ys h.1 k b)

-- Records that rise, and whose first key is greater than the last one of others, rise behind these.
pub rise_behind : (xs ys : List Record) (key : List ℕ) → Rising (keys_of xs) → Rising (keys_of ys) →
    first_position ys ≡ Some key → is_before (last_position xs) (Some key) ≡ true →
    Rising (keys_of (xs ++ ys))
rise_behind xs [] key h k e b = absurd (none_some e)
  where
    none_some : None ≡ Some key → ⊥
    none_some f = cc
rise_behind xs (y ∷ ys) key h k e b = rise_on xs y ys h k
    (subst (λ p. is_before (last_position xs) p ≡ true) (sym e) b)

-- No records rise behind others.
pub none_behind : (xs ys : List Record) → Rising (keys_of xs) → first_position ys ≡ None →
    Rising (keys_of (xs ++ ys))
none_behind xs [] h e = subst (λ zs. Rising (keys_of zs)) (sym (append-nil xs)) h
none_behind xs (y ∷ ys) h e = absurd (some_none e)
  where
    some_none : Some y.key ≡ None → ⊥
    some_none f = cc

-- Behind no records each run rises.
pub first_rises : (ys : List Record) → Rising (keys_of (overlaid [] ++ overlaid ys))
first_rises ys = subst (λ xs. Rising (keys_of (xs ++ overlaid ys))) (sym (come_to []))
    (overlaid_rises ys)

-- ---- the last key

last_of_both : (xs : List Record) (y : Record) (ys : List Record) →
    last_position (xs ++ y ∷ ys) ≡ last_position (y ∷ ys)
last_of_both [] y ys = refl
last_of_both (x ∷ []) y ys = refl
last_of_both (x ∷ z ∷ xs) y ys = last_of_both (z ∷ xs) y ys

pub last_behind : (xs ys : List Record) →
    last_position (xs ++ ys) ≡ position_behind (last_position xs) ys
last_behind xs [] = ap last_position (append-nil xs)
last_behind xs (y ∷ ys) = last_of_both xs y ys

-- Where records have a last key, it is that of the end behind them.
pub key_behind : (p : Position) (rs : List Record) (key : List ℕ) → last_position rs ≡ Some key →
    position_behind p rs ≡ Some key
key_behind p [] key e = absurd (none_some e)
  where
    none_some : None ≡ Some key → ⊥
    none_some f = cc
key_behind p (r ∷ rs) key e = e

ends_somewhere : (r : Record) (rs : List Record) → last_position (r ∷ rs) ≡ None → ⊥
ends_somewhere r [] e = some_none e
  where
    some_none : Some r.key ≡ None → ⊥
    some_none f = cc
ends_somewhere r (s ∷ rs) e = ends_somewhere s rs e

-- Where they have none, the end stays where it was.
pub end_stays : (p : Position) (rs : List Record) → last_position rs ≡ None →
    position_behind p rs ≡ p
end_stays p [] e = refl
end_stays p (r ∷ rs) e = absurd (ends_somewhere r rs e)

-- The last key of the records in places is that in the last place.
pub last_in : (bytes : List ℕ) (places : List Place) (p : Place) →
    slice_get places (length places - 1) ≡ Some p →
    last_position (records_in bytes places) ≡ Some (record_in bytes p).key
last_in bytes places p e =
    let ends = last_ends places p e in
    ap (λ ps. last_position (records_in bytes ps)) ends.is ∙
    ap last_position (map_push (record_in bytes) ends.front p) ∙
    last_of_both (records_in bytes ends.front) (record_in bytes p) []

-- ---- the file and the number of records

pub written_behind : (xs ys : List Record) → Rising (keys_of (overlaid xs ++ overlaid ys)) →
    written (overlaid (xs ++ ys)) ≡ written (overlaid xs) ++ written (overlaid ys)
written_behind xs ys h = ap written (stands_behind xs ys h) ∙
    flat_map-append record_spelling (overlaid xs) (overlaid ys)

both_bounded : (n m most : ℕ) → min (n + m) most ≡ min (min n most + m) most
both_bounded n m most = omega arith

counted_both : (xs ys : List Record) →
    counted (xs ++ ys) ≡ min (counted xs + length ys) 0xFFFF_FFFF_FFFF_FFFF
counted_both xs ys = ap (λ n. min n 0xFFFF_FFFF_FFFF_FFFF) (length-append xs ys) ∙
    both_bounded (length xs) (length ys) 0xFFFF_FFFF_FFFF_FFFF

pub counted_behind : (xs ys : List Record) → Rising (keys_of (overlaid xs ++ overlaid ys)) →
    counted (overlaid (xs ++ ys)) ≡
    min (counted (overlaid xs) + length (overlaid ys)) 0xFFFF_FFFF_FFFF_FFFF
counted_behind xs ys h = ap counted (stands_behind xs ys h) ∙ counted_both (overlaid xs) (overlaid ys)
