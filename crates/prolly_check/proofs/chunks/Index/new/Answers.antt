use Rattle.std.proofs.Common.{rules}
use Rattle.std.specs.Cmp.Lexicographic.{slice_cmp}
use Rattle.std.specs.Ordering.{is_lt, nat_cmp}
use Rattle.std.proofs.lemmas.List.Sorted.{answers_always}
use Rattle.prolly_check.proofs.IndexSteps.{none_reused}
use Rattle.prolly_check.proofs.chunks.Index.new.Goals.{then-not-is_sorted_by+in_default}
use Rattle.prolly_check.proofs.chunks.Index.new.Goals.{else-not-is_sorted_by}
use Rattle.prolly_check.proofs.chunks.Index.new.Goals as goal

pub returns-clause-index : goal.returns-clause-index
returns-clause-index c = λ chunks are. record {
  references = c.args.references.now;
  are = are;
  numbered = c.in_ok-entries.entries.items;
  in_turn = c.in_ok-entries.ensures;
  moved = c.sort_unstable_by_key.ensures.permutation;
  sorted = c.sort_unstable_by_key.ensures.sorted (λ e. e.0) (answers_always _ _ _
      (λ f a r g called. search rules));
}

pub returns-clause-apart : goal.returns-clause-apart
returns-clause-apart c = λ chunks are. elim c.if-not-is_sorted_by.branch [
  | then-not-is_sorted_by+in_default w ↦ w.in_default.ensures chunks are
  | else-not-is_sorted_by w ↦
      let rises = w.if-not-is_sorted_by.ensures.cases
      (λ x y. is_lt (slice_cmp nat_cmp x.0.0 y.0.0)) (answers_always _ _ _
      (λ f a r g called. search rules)) in
      none_reused (record { entries = c.sort_unstable_by_key.new.self }) chunks
      (returns-clause-index c chunks are) (rw c.deref.ensures.value at rises)
]
