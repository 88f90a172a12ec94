use Rattle.std.proofs.lemmas.Grind.{common_steps}
use Rattle.std.proofs.Common.{◌≡◌, ◌+◌, [], length, get_or, sym, ap, ◌∙◌, subst, arith}
use Rattle.std.specs.Prelude.{not}
use Rattle.prolly_entry.specs.Reference.{reference_of}
use Rattle.prolly_chunk.specs.Missing.{has_reference}
use Rattle.prolly_check.proofs.IndexSteps.{as_many, reference_at}
use Rattle.prolly_check.proofs.TreeNumbers.{CountedTo, Tells, counted, passed, search_tells}
use Rattle.prolly_check.proofs.TreeNumbers.{size_up_to}
use Rattle.prolly_check.proofs.numbers.missing_in.Goals.{then-is_none, else-is_none}
use Rattle.prolly_check.proofs.numbers.missing_in.Goals as goal

pub overflow_add-missing-then-is_none : goal.overflow_add-missing-then-is_none
overflow_add-missing-then-is_none c = grind (arith, common_steps, size_up_to)

-- what the index says of the chunk's reference
known : (c : goal.Joined-is_none) → Tells c.args.index.now (reference_of
    (get_or c.args.chunks.now c.loop-number.number [])) (not c.is_none.result)
known c others is = subst (λ r. has_reference others r ≡ not c.is_none.result)
    (reference_at c.args.chunks.now c.args.references.now c.loop-number.number _
    c.requires.references
    (omega (arith, as_many c.args.chunks.now c.args.references.now c.requires.references)))
    (search_tells others _ c.find.result (c.find.ensures others is) ∙ c.is_none.ensures)

pub loop-number-preserved : goal.loop-number-preserved
loop-number-preserved c = elim c.if-is_none.branch [
  | then-is_none w ↦ counted c.args.index.now c.args.chunks.now c.loop-number.number
      c.loop-number.missing c.if-is_none.missing (omega arith)
      (λ others is. known c others is ∙ ap not w.if-is_none.true)
      (ap (λ m. m.chunks) w.missing-is) (ap (λ m. m.bytes) w.missing-is ∙
      ap (λ chunk. c.loop-number.missing.bytes + length chunk) w.chunk.ensures)
      c.loop-number.invariant
  | else-is_none w ↦ passed c.args.index.now c.args.chunks.now c.loop-number.number
      c.if-is_none.missing (omega arith) (λ others is. known c others is ∙ ap not w.if-is_none.false)
      (subst (CountedTo c.args.index.now c.args.chunks.now c.loop-number.number)
      (sym w.missing-is) c.loop-number.invariant)
]
