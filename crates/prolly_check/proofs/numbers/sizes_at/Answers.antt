use Rattle.std.proofs.Common.{◌++◌, ◌∷◌, ◌∙◌, [], ap, arith, length, map, sym}
use Rattle.std.proofs.lemmas.List.{take_all}
use Rattle.prolly_check.specs.Numbers.{at_level}
use Rattle.prolly_check.proofs.TreeNumbers.{size_added, size_left_out}
use Rattle.prolly_check.proofs.numbers.sizes_at.Goals.{then-level+in_ok-push, else-level}
use Rattle.prolly_check.proofs.numbers.sizes_at.Goals as goal

pub loop-number-preserved : goal.loop-number-preserved
loop-number-preserved c =
    let sizes = c.loop-number.sizes.items in
    elim c.if-level.branch [
      | then-level+in_ok-push w ↦ ap (λ sizes. sizes.items) w.sizes-is ∙ w.in_ok-push.ensures.items
          ∙ ap (λ chunk. sizes ++ length chunk ∷ []) w.chunk.ensures ∙
          sym (size_added c.args.level c.args.chunks.now c.loop-number.number (omega arith) sizes
          c.loop-number.invariant (sym c.level.ensures ∙ w.if-level.true))
      | else-level w ↦ ap (λ sizes. sizes.items) w.sizes-is ∙
          sym (size_left_out c.args.level c.args.chunks.now c.loop-number.number (omega arith) sizes
          c.loop-number.invariant (λ e. w.if-level.false (c.level.ensures ∙ e)))
    ]

pub returns : goal.returns
returns c = c.loop-number.invariant ∙ ap (λ cs. map length (at_level c.args.level cs))
    (take_all c.loop-number.number c.args.chunks.now (omega arith))
