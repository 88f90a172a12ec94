use Rattle.std.proofs.Common.{◌∙◌, ap, arith, subst}
use Rattle.prolly_tree.specs.Split.{last_passes}
use Rattle.prolly_tree.specs.Tree.{pair_is_boundary}
use Rattle.prolly_apply.specs.Cutting.{NoneInside}
use Rattle.prolly_apply.specs.declared.cutting.Cutting.{Cutting}
use Rattle.prolly_apply.proofs.Cuttings.{admitted_beyond, admitted_tested}
use Rattle.prolly_apply.proofs.cutting.Cutting.admits.Goals as goal
use Rattle.prolly_apply.proofs.cutting.Cutting.admits.Goals.{then-self-lt-TESTED_LEAVES+else-has_boundary_inside, else-self-lt-TESTED_LEAVES}

pub returns : goal.returns
returns g c =
    let cut = g.C.Cut.cut c.args.cut.now in
    let ended = c.ends_at_boundary-self.ensures ∙
    ap (last_passes (pair_is_boundary cut)) c.pairs-2.ensures in
    elim c.if-self-lt-TESTED_LEAVES.branch [
      | then-self-lt-TESTED_LEAVES+else-has_boundary_inside w ↦ admitted_tested cut c.args.leaf.now
          c.args.self.now c.if-self-lt-TESTED_LEAVES.self.tested c.ends_at_boundary-self.result
          c.if-not-self.false ended w.if-self-lt-TESTED_LEAVES.true
          (ap (λ (x : Cutting). x.tested) w.self-is)
          (subst (NoneInside cut) w.pairs.ensures
          (w.has_boundary_inside.ensures.no w.if-has_boundary_inside.false))
      | else-self-lt-TESTED_LEAVES w ↦ admitted_beyond cut c.args.leaf.now
          c.args.self.now c.if-self-lt-TESTED_LEAVES.self.tested c.ends_at_boundary-self.result
          c.if-not-self.false ended (λ lt. let le = w.if-self-lt-TESTED_LEAVES.false in omega arith)
          (ap (λ (x : Cutting). x.tested) w.self-is)
    ]
