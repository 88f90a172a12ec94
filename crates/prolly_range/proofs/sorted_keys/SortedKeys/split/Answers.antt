use Rattle.std.proofs.Common.{map, not, slice_index_or, ◌∙◌, sym, ap, subst, rules}
use Rattle.std.proofs.lemmas.Bool.{not-false, not-true}
use Rattle.std.proofs.lemmas.List.Sorted.{IsPartitionPoint-from_clause}
use Rattle.std.specs.Ordering.{is_lt}
use Rattle.prolly_entry.specs.Keys.{Rising, key_order}
use Rattle.prolly_range.proofs.Splitting.{filter_back, filter_front, partitioned, rising_drop}
use Rattle.prolly_range.proofs.Splitting.{rising_take}
use Rattle.prolly_range.proofs.sorted_keys.SortedKeys.split.Goals as goal

pub invariant_of-result : goal.invariant_of-result
invariant_of-result c = record {
  rising = subst (λ ks. Rising (map (λ k. k.items) ks)) (sym c.split_at.ensures.front)
      (rising_take (λ k. k.items) c.args.self.keys.now c.partition_point-count.result
      c.args.self.rising);
}

pub invariant_of-result-2 : goal.invariant_of-result-2
invariant_of-result-2 c = record {
  rising = subst (λ ks. Rising (map (λ k. k.items) ks)) (sym c.split_at.ensures.back)
      (rising_drop (λ k. k.items) c.args.self.keys.now c.partition_point-count.result
      c.args.self.rising);
}

pub returns-clause-up_to : goal.returns-clause-up_to
returns-clause-up_to c =
    let keys = c.args.self.keys.now in
    let key = c.args.key.now in
    let points = IsPartitionPoint-from_clause (λ k. not (is_lt (key_order key k.items))) keys
    c.partition_point-count.result c.partition_point-count.ensures.partitioned
    (partitioned (λ k. k.items) keys key c.args.self.rising) (λ a r g called. search rules) in
    ap (map (λ k. k.items)) c.split_at.ensures.front ∙
    sym (filter_front (λ k. k.items) (λ k. not (is_lt (key_order key k))) keys
    c.partition_point-count.result points.0 points.1 c.partition_point-count.ensures.bound)

pub returns-clause-above : goal.returns-clause-above
returns-clause-above c =
    let keys = c.args.self.keys.now in
    let key = c.args.key.now in
    let points = IsPartitionPoint-from_clause (λ k. not (is_lt (key_order key k.items))) keys
    c.partition_point-count.result c.partition_point-count.ensures.partitioned
    (partitioned (λ k. k.items) keys key c.args.self.rising) (λ a r g called. search rules) in
    ap (map (λ k. k.items)) c.split_at.ensures.back ∙
    sym (filter_back (λ k. k.items) (λ k. is_lt (key_order key k)) keys
    c.partition_point-count.result
    (λ i k lo hi. not-true (is_lt (key_order key (slice_index_or keys i k).items)) (points.0 i k lo hi))
    (λ i k lo hi. not-false (is_lt (key_order key (slice_index_or keys i k).items)) (points.1 i k lo hi))
    c.partition_point-count.ensures.bound)
