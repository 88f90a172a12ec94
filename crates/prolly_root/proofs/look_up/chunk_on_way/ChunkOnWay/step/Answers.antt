use Rattle.std.proofs.Common.{refl}
use Rattle.prolly_root.proofs.Descending.{handed_on}
use Rattle.prolly_root.proofs.FaultSteps.{lacks, level_read, one_below, steps_to}
use Rattle.prolly_root.proofs.look_up.chunk_on_way.ChunkOnWay.step.Goals as goal

pub returns-in_err-place-clause-tells : goal.returns-in_err-place-clause-tells
returns-in_err-place-clause-tells g c file at goes here due asked =
    let stands = g.S.ChunkSource.stands in
    let level = level_read c.args.version c.args.self.now.chunk.items _
    c.requires.named.ordered.whole c.index-level.ensures in
    let below = one_below stands due here.is asked c.in-Some.child c.in-Some.ensures.on
    c.index-level.result.now level in
    let found = c.in_err-place.ensures in (
      record {
        stands_there = found.stays file at.number at.from goes here.stands_there below;
        is = here.is;
      },
      rw (handed_on c.in_err-place.field-0.0 c.from_residual.result c.from_residual.ensures)
          (lacks stands due here.is asked c.in-Some.child c.in-Some.ensures.on
          c.index-level.result.now level
          (found.finds file at.number at.from goes here.stands_there below)),
    )

pub returns-clause-tells : goal.returns-clause-tells
returns-clause-tells g c file at goes here due asked =
    let stands = g.S.ChunkSource.stands in
    let level = level_read c.args.version c.args.self.now.chunk.items _
    c.requires.named.ordered.whole c.index-level.ensures in
    let below = one_below stands due here.is asked c.in-Some.child c.in-Some.ensures.on
    c.index-level.result.now level in
    let found = c.in_ok-place.ensures in (
      record {
        stands_there = found.stays file at.number at.from goes here.stands_there below;
        is = here.is;
      },
      steps_to stands due here.is asked c.in-Some.child c.in-Some.ensures.on
          c.index-level.result.now level refl refl refl c.in_ok-place.place
          (found.finds file at.number at.from goes here.stands_there below),
    )
