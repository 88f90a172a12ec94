use Rattle.std.proofs.Common.{◌≡◌, Ok, true}
use Rattle.std.specs.List.{AllByRecursion}
use Rattle.prolly_root.specs.ReadAhead.{IsPartOf}
use Rattle.prolly_root.specs.Walk.{HasRead}
use Rattle.prolly_root.proofs.file.fetched.fetch_in_order.Given as goal

abbrev pub invariant-loop-room : goal.invariant-loop-room
invariant-loop-room g l = record {
  read : HasRead (g.D.Device.seen l.initial.device) (g.D.Device.seen l.device) (Ok (tt {0}));
  parts : (g.D.Device.seen l.initial.device).is_honest ≡ true →
      AllByRecursion (IsPartOf (g.D.Device.seen l.initial.device).bytes) l.leaves.items;
}

abbrev pub decreases-loop-room : goal.decreases-loop-room
decreases-loop-room g l = l.room
