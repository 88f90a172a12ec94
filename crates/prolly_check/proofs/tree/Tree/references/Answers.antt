use Rattle.std.proofs.Common.{sym, subst, arith}
use Rattle.prolly_look_up.specs.Content.{IsFileOf}
use Rattle.prolly_check.specs.Chunks.{AreReferences}
use Rattle.prolly_check.proofs.CheckedFile.{chunks_are}
use Rattle.prolly_check.proofs.tree.Tree.references.Goals as goal

pub returns : goal.returns
returns c = λ content is.
    let own = subst (λ bytes. IsFileOf bytes content) (sym c.self.view_is) is in
    let same = chunks_are _ _ _ _ c.self.invariant.0 content (omega arith) own in
    rw c.deref.ensures.value
    (subst (λ cs. AreReferences cs c.self.inside.references.items) same c.self.invariant.1)
