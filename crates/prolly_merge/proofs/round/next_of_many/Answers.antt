use Rattle.std.proofs.Common.{refl, sym, subst}
use Rattle.prolly_merge.specs.Head.{Stops}
use Rattle.prolly_merge.specs.Choice.{IsChoice}
use Rattle.prolly_merge.proofs.Peeks.{heads_are}
use Rattle.prolly_merge.specs.Peeked.{peeked_of}
use Rattle.prolly_merge.proofs.Shared.{step_with_is}
use Rattle.prolly_merge.proofs.round.next_of_many.Goals as goal

pub returns-in-Take : goal.returns-in-Take
returns-in-Take g c =
    let ns = c.args.inputs.now in
    let hs = c.args.heads.now in
    step_with_is g.I.In.link g.I.In.progress g.I.In.Follows g.I.In.received c.args.shared
    (peeked_of ns hs) hs c.take.result c.step_with.result
    (peeked_of c.take.new.inputs c.take.new.heads) (sym (heads_are ns hs c.requires))
    c.take.ensures.step c.take.ensures.left_out c.step_with.ensures

pub returns-in-Stop : goal.returns-in-Stop
returns-in-Stop g c = (
  subst (λ hs. Stops hs c.in-Stop.end) (sym
      (heads_are c.args.inputs.now c.args.heads.now c.requires))
      (subst (IsChoice c.args.heads.now) c.in-Stop.is c.choose.ensures),
  refl,
)
