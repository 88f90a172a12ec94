use Rattle.std.proofs.Common.{rules}
use Rattle.std.proofs.lemmas.Fn.{always_returns_same}
use Rattle.std.proofs.lemmas.List.Sorted.{IsPermutation-refl, IsPermutation-trans}
use Rattle.prolly_sort.specs.Place.{comes_before}
use Rattle.prolly_sort.proofs.Standing.{places_ordered}
use Rattle.prolly_sort.proofs.group.sort_by_keys.Goals.{then-places-gt-FEW, else-places-gt-FEW}
use Rattle.prolly_sort.proofs.group.sort_by_keys.Goals as goal

pub returns-clause-same : goal.returns-clause-same
returns-clause-same c = IsPermutation-trans _ _ _ (elim c.if-places-gt-FEW.branch [
  | then-places-gt-FEW w ↦ rw w.places-is w.sort_unstable_by_key.ensures.permutation
  | else-places-gt-FEW w ↦ rw w.places-is (IsPermutation-refl _)
]) c.sort_unstable_by.ensures.permutation

pub returns-clause-sorted : goal.returns-clause-sorted
returns-clause-sorted c =
    let bytes = c.args.bytes.now in
    c.sort_unstable_by.ensures.sorted (comes_before bytes) (places_ordered bytes)
    (always_returns_same _ _ _ (λ a r f k. search rules))
