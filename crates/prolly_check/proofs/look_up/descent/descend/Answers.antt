use Rattle.std.proofs.Common.{arith, [], ◌∷◌, ◌++◌}
use Rattle.prolly_look_up.specs.Content.{nth_chunk}
use Rattle.prolly_look_up.specs.Sought.{sought_of}
use Rattle.prolly_check.proofs.FileDescents.{way_begins, way_ends, way_goes_on}
use Rattle.prolly_check.proofs.look_up.descent.descend.Goals as goal

pub loop-next-init : goal.loop-next-init
loop-next-init c = record {
  above = [];
  on = way_begins c.args.file.now (sought_of c.args.sought) c.root.result c.root.ensures.file
      c.root.ensures.within c.root.ensures.is c.requires;
}

pub loop-next-preserved : goal.loop-next-preserved
loop-next-preserved c =
    let before = c.loop-next.invariant in
    record {
      above = before.above ++ nth_chunk c.args.file.now c.loop-next.at.number ∷ [];
      on = way_goes_on c.args.file.now (sought_of c.args.sought) before.above c.loop-next.at
          before.on c.below.ensures.named c.in-Some.next c.in-Some.ensures.on;
    }

pub returns-clause-end : goal.returns-clause-end
returns-clause-end c = grind (arith, way_ends)
