use Rattle.std.proofs.Common.{◌≡◌, ◌∷◌, ap, arith, length, subst, sym, ◌∙◌}
use Rattle.std.proofs.lemmas.List.{with_items_is}
use Rattle.prolly_check.specs.Follower.{ClosesAll}
use Rattle.prolly_look_up.specs.HeldPairs.{bytes_in}
use Rattle.prolly_check.proofs.Followed.{one_closed}
use Rattle.prolly_check.proofs.OpenLevels.{taken_out}
use Rattle.prolly_check.proofs.verdict.levels.close_all.Goals as goal

pub loop-alloc-preserved : goal.loop-alloc-preserved
loop-alloc-preserved c = λ after closes.
    let size : length c.pass_on.new.levels ≡ length c.remove.new.self.items =
    c.pass_on.ensures.size ∙ ap length c.deref_mut.ensures.value in
    let out : c.loop-alloc.nodes.items ≡ c.remove.result ∷ c.remove.new.self.items =
    taken_out _ c.remove.new.self.items c.remove.result
    (omega (arith, c.len.ensures, c.loop-alloc.nodes.ok.0)) c.remove.ensures.value
    c.remove.ensures.items in
    c.loop-alloc.invariant after
    (subst (λ ns. ClosesAll ns (bytes_in c.loop-alloc.due.items) after) (sym out)
    (one_closed c.remove.result c.remove.new.self.items c.pass_on.new.levels c.finish-last.result
    (bytes_in c.loop-alloc.due.items) (bytes_in c.pass_on.new.due.items) after
    c.finish-last.ensures size
    (rw c.deref_mut.ensures.value at c.in_ok-pass_on.ensures.passes)
    (rw (with_items_is c.remove.new.self c.pass_on.new.levels (size ∙ sym c.remove.new.self.ok.0))
    at closes)))
