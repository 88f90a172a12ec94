use Rattle.std.proofs.Common.{sym, ap, ◌∙◌, subst}
use Rattle.prolly_check.specs.Chunks.{HasReference}
use Rattle.prolly_look_up.specs.Content.{chunks_of}
use Rattle.prolly_check.proofs.CheckedFile.{number_of}
use Rattle.prolly_check.proofs.file.CheckedFile.child.Goals as goal

pub unreachable-requires : goal.unreachable-requires
unreachable-requires c =
    let has = subst (λ cs. HasReference cs c.args.reference.now.0)
    (sym (c.self.invariant.1 ∙ ap chunks_of c.self.view_is)) c.requires in
    let at = number_of c.self.inside.chunks c.args.reference.now.0 has.chunk has.is_in has.is in
    (rw c.in-None.is at (c.find.ensures c.self.inside.chunks c.self.invariant.2)) at.0 at.1
