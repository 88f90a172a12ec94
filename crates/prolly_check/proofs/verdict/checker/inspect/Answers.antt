use Rattle.std.proofs.Common.{drop, refl, subst, sym}
use Rattle.std.proofs.lemmas.Result.{err_from_is_err_and}
use Rattle.prolly_check.specs.Chunks.{AreReferences}
use Rattle.prolly_check.specs.Frames.{chunks_in}
use Rattle.prolly_check.proofs.CheckedFile.{at_references, at_end}
use Rattle.prolly_check.proofs.verdict.checker.inspect.Goals as goal

pub returns-in_err-index-clause-err : goal.returns-in_err-index-clause-err
returns-in_err-index-clause-err g c =
    let p = err_from_is_err_and c.from_residual-in_err-index.result
    c.from_residual-in_err-index.ensures.1 in
    let layout = c.in_ok-layout.layout in
    let end = c.in_ok-layout.end in
    let chunks = chunks_in c.args.bytes.now layout.spans.items in
    rw (p.1, p.2) (at_references c.args.bytes.now layout.header layout.spans.items end
    c.in_ok-layout.ensures.ok chunks refl layout.header.bits refl (drop end c.args.bytes.now) refl
    c.in_ok-references.ensures.ok c.in_err-index.field-0.0
    (c.in_err-index.ensures.err chunks (subst (AreReferences chunks) (sym c.deref.ensures.value)
    c.in_ok-references.ensures.references)))

pub returns-clause-ok : goal.returns-clause-ok
returns-clause-ok g c =
    let layout = c.in_ok-layout.layout in
    let end = c.in_ok-layout.end in
    let chunks = chunks_in c.args.bytes.now layout.spans.items in
    let are = subst (AreReferences chunks) (sym c.deref.ensures.value)
    c.in_ok-references.ensures.references in
    at_end c.args.bytes.now layout.header layout.spans.items end c.in_ok-layout.ensures.ok chunks refl
    layout.header.bits refl (drop end c.args.bytes.now) refl c.in_ok-references.ensures.ok
    c.in_ok-index.index (c.in_ok-index.ensures.apart chunks are)
    (c.in_ok-index.ensures.index chunks are)
