use Rattle.std.proofs.Common.{ap, ◌∙◌, rules, refl, ◌++◌, map}
use Rattle.std.specs.List.{flat_map}
use Rattle.prolly_root_diff.specs.Sides.{bound_of, due_at, dues}
use Rattle.prolly_root_diff.proofs.Lists.{head_is}
use Rattle.prolly_root_diff.proofs.side.Side.first_due.Goals as goal

pub returns : goal.returns
returns g c =
    let h = head_is c.args.self.now.due.items c.in_ok-siblings.siblings.now (search rules)
    c.in_ok-siblings.ensures.lookup in (
      map (due_at (bound_of c.in_ok-siblings.siblings.now.parent))
          c.in_ok-siblings.siblings.now.behind.items ++ flat_map dues h.0,
      ap (flat_map dues) h.1 ∙ rw c.bound.ensures refl,
    )
