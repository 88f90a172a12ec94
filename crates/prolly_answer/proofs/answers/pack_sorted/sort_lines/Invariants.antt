use Rattle.std.proofs.Common.{◌≡◌, ◌-◌, ◌^◌, true}
use Rattle.prolly_sort.specs.Shelf.{is_unique}
use Rattle.prolly_answer.specs.SortedPack.{AreSortedSoFar}
use Rattle.prolly_answer.proofs.answers.pack_sorted.sort_lines.Given as goal

abbrev pub invariant-loop-lines : goal.invariant-loop-lines
invariant-loop-lines g l = record {
  form : l.lines.form ≡ l.fn.form;
  unique : is_unique l.sorter ≡ is_unique l.fn.sorter;
  failures : (g.S.Source.seen l.source).failures ≡ (g.S.Source.seen l.fn.source).failures;
  keeps : g.T.RunStore.keeps l.fn.store ≡ true → g.T.RunStore.keeps l.store ≡ true;
  so_far : (g.S.Source.seen l.fn.source).is_honest ≡ true →
      AreSortedSoFar g.W.Sink.seen g.B.Source.seen (g.S.Source.seen l.fn.source).left
      (g.T.RunStore.keeps l.fn.store) l.lines (g.S.Source.seen l.source) l.sorter;
}

abbrev pub decreases-loop-lines : goal.decreases-loop-lines
decreases-loop-lines g l = 2 ^ 64 - l.lines.number
