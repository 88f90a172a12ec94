use Rattle.std.proofs.Common.{ap, subst, sym, ◌∙◌}
use Rattle.std.proofs.lemmas.Result.{err_from_is_err_and}
use Rattle.prolly_look_up.specs.Way.{FallsTo}
use Rattle.prolly_root_diff.proofs.Standing.{chunk_fault, first_is}
use Rattle.prolly_root_diff.proofs.Subtrees.{same_level}
use Rattle.prolly_root_diff.proofs.siblings.Siblings.read.Goals as goal

pub returns-clause-falls : goal.returns-clause-falls
returns-clause-falls g c = subst (λ above. FallsTo above c.in_ok-chunk.chunk.items)
    (c.above-above.ensures ∙ same_level c.args.self.now.parent c.find.new.self.parent
    c.find.ensures.same.above) c.in_ok-chunk.ensures.falls

pub returns-in_err-chunk-clause-tells : goal.returns-in_err-chunk-clause-tells
returns-in_err-chunk-clause-tells g c file first others goes st =
    let found = c.in_ok-place.ensures.finds file first others goes st in
    let is = first_is g.S.ChunkSource.stands file c.args.self.now.parent c.args.self.now.next
    c.args.self.now.behind.items first others st in
    let p = err_from_is_err_and c.from_residual-in_err-chunk.result
    c.from_residual-in_err-chunk.ensures.1 in
    rw (p.1, p.2) (chunk_fault g.S.ChunkSource.stands file c.args.version first found.0 found.1 found.3
    c.find.new.self.next.0 c.above-above.result
    (is.0 ∙ ap (λ r. r.0) (sym c.find.ensures.same.next))
    (is.1 ∙ sym (c.above-above.ensures ∙ same_level c.args.self.now.parent c.find.new.self.parent
    c.find.ensures.same.above)) c.in_err-chunk.field-0.0
    (c.in_err-chunk.ensures.tells file found.0 found.1 (c.find.ensures.asked.0 file goes)
    found.2))

pub returns-clause-tells : goal.returns-clause-tells
returns-clause-tells g c file first others goes st =
    let found = c.in_ok-place.ensures.finds file first others goes st in (
      found.0,
      found.1,
      found.2,
      found.3,
      c.in_ok-chunk.ensures.tells file found.0 found.1 (c.find.ensures.asked.0 file goes) found.2,
    )
