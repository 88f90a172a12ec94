use Rattle.std.proofs.Common.{refl, arith}
use Rattle.prolly_build.proofs.RanSteps.{nothing_begun}
use Rattle.prolly_build.proofs.run.base.run_middle.Goals as goal

pub returns-in_default : goal.returns-in_default
returns-in_default g c = record {
  passes = tt;
  fed = tt;
  hands_on = record {
    written = tt;
    refused = λ _. refl;
    begun = nothing_begun c.args.site.now.config _;
  };
}

pub merge_tree-wrote-requires-clause-each : goal.merge_tree-wrote-requires-clause-each
merge_tree-wrote-requires-clause-each g c κs within =
    omega (arith, c.args.feed.each, c.requires.files.0)

pub merge_tree-wrote-requires-clause-room : goal.merge_tree-wrote-requires-clause-room
merge_tree-wrote-requires-clause-room g c κs within =
    let room = c.args.feed.room in
    let files = c.requires.files.0 in
    (room.0, omega (arith, room.1, files), omega (arith, room.2, files))

pub returns-clause-hands_on : goal.returns-clause-hands_on
returns-clause-hands_on g c =
    record { written = c.in_ok-wrote.ensures.hands_on.written; refused = tt; begun = tt }
