-- How large overlays are, and that merged parts rise.
use Rattle.std.proofs.Common.{ℕ, ◌+◌, ◌≤◌, List, [], ◌∷◌, ◌++◌, length, map, Bool, true, false}
use Rattle.std.proofs.Common.{cond, Option, Some, None, Ordering, arith}
use Rattle.std.specs.declared.cmp.Ordering.TheVariants.{Less, Equal, Greater}
use Rattle.std.specs.List.{filter, flat_map}
use Rattle.prolly_entry.specs.Keys.{key_order}
use Rattle.prolly_tree.specs.Merge.{Input, stop, is_within, raw_merged_part, merged_part}
use Rattle.prolly_tree.specs.MergedParts.{MergedPartRises, OverlayIsSmall}
use Rattle.prolly_entry.specs.Overlay.{with_record_by, with_record, with_records, raw_overlay}
use Rattle.prolly_entry.specs.Overlay.{pairs_of_change, pairs_put}
use Rattle.prolly_entry.specs.Record.{Record}
use Rattle.prolly_tree.proofs.merging.Joins.{filter_rising}
use Rattle.prolly_entry.specs.lemmas.RisingRecords.{rising_is}
use Rattle.prolly_entry.specs.lemmas.Overlays.{rising_raw}

pub merged_part_rises : (Fault : Type 0) → MergedPartRises Fault
merged_part_rises Fault inputs =
    rising_is (raw_merged_part inputs) (filter_rising (is_within (stop inputs))
    (raw_overlay (map (λ i. i.records) inputs)) (rising_raw (map (λ i. i.records) inputs)))

one_more : (r : Record) (m : List Record) → length (with_record r m) ≤ length m + 1
one_more r [] = omega arith
one_more r (s ∷ ss) = go (key_order r.key s.key) (one_more r ss)
  where
    go : (o : Ordering) → length (with_record r ss) ≤ length ss + 1 →
        length (with_record_by o r s ss (with_record r ss)) ≤ length (s ∷ ss) + 1
    go Less h = omega arith
    go Equal h = omega arith
    go Greater h = omega (arith, h)

all_more : (m rs : List Record) → length (with_records m rs) ≤ length m + length rs
all_more m [] = omega arith
all_more m (r ∷ rs) = let h = all_more (with_record r m) rs in let k = one_more r m in
    omega (arith, h, k)

few_put : (rs : List Record) → length (pairs_put rs) ≤ length rs
few_put [] = omega arith
few_put (r ∷ rs) = go r.value (few_put rs)
  where
    go : (v : Option (List ℕ)) → length (pairs_put rs) ≤ length rs →
        length (pairs_of_change r.key v ++ pairs_put rs) ≤ length (r ∷ rs)
    go None h = omega (arith, h)
    go (Some v) h = omega (arith, h)

few_records : (lists : List (List Record)) → length (raw_overlay lists) ≤
    length (flat_map (λ records. records) lists)
unfolding raw_overlay
few_records lists = let h = all_more [] (flat_map (λ records. records) lists) in omega (arith, h)

pub overlay_is_small : OverlayIsSmall
overlay_is_small lists =
    let h = few_put (raw_overlay lists) in
    let k = few_records lists in
    omega (arith, h, k)

few_left : (t : Record → Bool) (rs : List Record) → length (filter t rs) ≤ length rs
few_left t [] = omega arith
few_left t (r ∷ rs) = go (t r) (few_left t rs)
  where
    go : (b : Bool) → length (filter t rs) ≤ length rs →
        length (cond b (r ∷ filter t rs) (filter t rs)) ≤ length (r ∷ rs)
    go true h = omega (arith, h)
    go false h = omega (arith, h)

-- a merged part has at most as many pairs as its inputs have records
pub merged_part_is_small : (Fault : Type 0) (inputs : List (Input Fault)) →
    length (merged_part inputs) ≤ length (flat_map (λ records. records)
    (map (λ i. i.records) inputs))
merged_part_is_small Fault inputs =
    let put = few_put (raw_merged_part inputs) in
    let left = few_left (λ r. is_within (stop inputs) r.key)
    (raw_overlay (map (λ i. i.records) inputs)) in
    let all = few_records (map (λ i. i.records) inputs) in
    omega (arith, put, left, all)
