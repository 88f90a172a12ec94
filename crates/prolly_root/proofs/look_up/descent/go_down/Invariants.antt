use Rattle.std.proofs.Common.{◌-◌, length, Ok}
use Rattle.std.specs.List.{AllByRecursion}
use Rattle.std.specs.Vec.Iter.{into_iter_items}
use Rattle.prolly_look_up.specs.Sought.{sought_of}
use Rattle.prolly_root.specs.ChunkFile.{ChunkFile}
use Rattle.prolly_root.specs.ChunkSource.{HasAsked}
use Rattle.prolly_root.specs.Descent.{IsKeptOf, IsTested, chunks_on_way}
use Rattle.prolly_root.proofs.Descending.{Descended, room_below}
use Rattle.prolly_root.proofs.FaultSteps.{ComesTo}
use Rattle.prolly_root.proofs.look_up.descent.go_down.Given as goal

abbrev pub invariant-loop-levels : goal.invariant-loop-levels
invariant-loop-levels g l = record {
  way : Descended l.version l.root.0 (sought_of l.fn.sought) (chunks_on_way l.levels.items) l.due;
  tested : AllByRecursion (IsTested l.version) l.levels.items;
  kept : AllByRecursion (IsTested l.version) (into_iter_items l.kept);
  asked : HasAsked g.S.ChunkSource.goes_over g.S.ChunkSource.failures l.fn.source l.source
      (Ok (tt {0}));
  tells : (file : ChunkFile) → g.S.ChunkSource.goes_over l.fn.source file →
      g.S.ChunkSource.stands file l.fn.top (length file.chunks - 1) 0 →
      AllByRecursion (IsKeptOf g.S.ChunkSource.stands file) l.fn.kept.items →
      ComesTo g.S.ChunkSource.stands l.version file l.root.0 (sought_of l.fn.sought) l.due l.place
      l.levels.items (into_iter_items l.kept);
}

abbrev pub decreases-loop-levels : goal.decreases-loop-levels
decreases-loop-levels g l = room_below l.due.above
