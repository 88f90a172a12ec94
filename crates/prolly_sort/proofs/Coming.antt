-- Records that come one after another, and what they come to.
use Rattle.std.proofs.Common.{◌≡◌, ℕ, Bool, true, false, cond, List, [], ◌∷◌, ◌++◌, Option, Some}
use Rattle.std.proofs.Common.{None, map, filter, flat_map, refl, sym, ap, ◌∙◌, append-nil}
use Rattle.std.specs.Ordering.{is_eq}
use Rattle.prolly_entry.specs.Keys.{key_order, Rising}
use Rattle.prolly_entry.specs.Overlay.{AllRising, change_of, last_change_of, or_else, raw_overlay}
use Rattle.prolly_entry.specs.Overlay.{with_records}
use Rattle.prolly_entry.specs.Record.{Record, keys_of}
use Rattle.prolly_entry.specs.lemmas.Overlays.{found_raw, or_assoc, or_none, overlay_is, rising_raw}
use Rattle.prolly_entry.specs.lemmas.Overlays.{same_lookups}
use Rattle.prolly_entry.specs.lemmas.RisingRecords.{rising_is}
use Rattle.prolly_sort.specs.Overlaid.{PartsComeToTheWhole, RisingComeToThemselves, overlaid, singles}

-- What the last record of the key says of it.
abbrev pub said : List Record → List ℕ → Option (Option (List ℕ))
said records key = last_change_of (singles records) key

-- The record is of the key.
abbrev pub has : List ℕ → Record → Bool
has key r = is_eq (key_order r.key key)

singles_rise : (records : List Record) → AllRising (singles records)
singles_rise [] = tt
singles_rise (r ∷ records) = (tt, singles_rise records)

-- What records come to says of a key what the last record of the key says.
pub found : (records : List Record) (key : List ℕ) → change_of (overlaid records) key ≡ said records key
found records key = found_raw (singles records) key (singles_rise records)

-- It rises.
pub overlaid_rises : (records : List Record) → Rising (keys_of (overlaid records))
overlaid_rises records = rising_is (overlaid records) (rising_raw (singles records))

-- Records that say the same of each key come to the same.
pub same_come : (xs ys : List Record) → ((key : List ℕ) → said xs key ≡ said ys key) →
    overlaid xs ≡ overlaid ys
same_come xs ys same = same_lookups (overlaid xs) (overlaid ys) (rising_raw (singles xs))
    (rising_raw (singles ys)) (λ key. found xs key ∙ same key ∙ sym (found ys key))

-- ---- the records of a key alone say what is said of it

pub said_by_those : (records : List Record) (key : List ℕ) →
    said (filter (has key) records) key ≡ said records key
said_by_those [] key = refl
said_by_those (r ∷ records) key = go (has key r) refl (said_by_those records key)
  where
    go : (b : Bool) → has key r ≡ b → said (filter (has key) records) key ≡ said records key →
        said (cond b (r ∷ filter (has key) records) (filter (has key) records)) key ≡
        said (r ∷ records) key
    go true e same = ap (λ o. or_else o (change_of (r ∷ []) key)) same
    go false e same = same ∙ sym (or_none (said records key)) ∙
        ap (λ b. or_else (said records key) (cond b (Some r.value) None)) (sym e)

-- ---- all records, put one after another

pub flat_singles : (records : List Record) → flat_map (λ rs. rs) (singles records) ≡ records
flat_singles [] = refl
flat_singles (r ∷ records) = ap (λ rs. r ∷ rs) (flat_singles records)

-- Records come to what they make where they are put one after another.
pub come_to : (records : List Record) → overlaid records ≡ with_records [] records
unfolding raw_overlay
come_to records = ap (with_records []) (flat_singles records)

as_one_list : (records : List Record) → raw_overlay (records ∷ []) ≡ with_records [] records
unfolding raw_overlay
as_one_list records = ap (with_records []) (append-nil records)

-- Rising records come to themselves.
pub rising_stay : RisingComeToThemselves
rising_stay records h = come_to records ∙ sym (as_one_list records) ∙
    sym ((overlay_is (records ∷ []) (h, tt)).1 records (record { rising = h; is = λ key. refl }))

-- ---- part by part

said_append : (xs ys : List Record) (key : List ℕ) →
    said (xs ++ ys) key ≡ or_else (said ys key) (said xs key)
said_append [] ys key = sym (or_none (said ys key))
said_append (r ∷ xs) ys key = ap (λ o. or_else o (change_of (r ∷ []) key)) (said_append xs ys key) ∙
    or_assoc (said ys key) (said xs key) (change_of (r ∷ []) key)

parts_rise : (parts : List (List Record)) → AllRising (map overlaid parts)
parts_rise [] = tt
parts_rise (records ∷ parts) = (overlaid_rises records, parts_rise parts)

said_by_parts : (parts : List (List Record)) (key : List ℕ) →
    last_change_of (map overlaid parts) key ≡ said (flat_map (λ records. records) parts) key
said_by_parts [] key = refl
said_by_parts (records ∷ parts) key =
    ap (λ o. or_else o (change_of (overlaid records) key)) (said_by_parts parts key) ∙
    ap (or_else (said (flat_map (λ rs. rs) parts) key)) (found records key) ∙
    sym (said_append records (flat_map (λ rs. rs) parts) key)

-- Parts come to the whole.
pub parts_come : PartsComeToTheWhole
parts_come parts =
    let all = flat_map (λ records. records) parts in
    same_lookups (raw_overlay (map overlaid parts)) (overlaid all) (rising_raw (map overlaid parts))
    (rising_raw (singles all))
    (λ key. found_raw (map overlaid parts) key (parts_rise parts) ∙ said_by_parts parts key ∙
    sym (found all key))
