use Rattle.std.proofs.Common.{◌≡◌, length, arith, sym, ◌∙◌}
use Rattle.std.specs.List.{filter}
use Rattle.std.proofs.lemmas.Bool.{leb-true, le-leb}
use Rattle.std.proofs.lemmas.List.Sums.{length-filter}
use Rattle.prolly_tree.specs.Events.{has_level}
use Rattle.prolly_file.proofs.levels.has_second.Goals as goal

pub returns : goal.returns
returns c =
    let e : length (filter (has_level c.args.level) c.args.events.now) ≡ c.count_at.result =
    length-filter (has_level c.args.level) c.args.events.now ∙ sym c.count_at.ensures in (
      λ h. omega (arith, e, leb-true 2 c.count_at.result h),
      λ h. le-leb 2 c.count_at.result (omega (arith, e, h)),
    )
