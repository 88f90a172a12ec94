use Rattle.std.proofs.Common.{◌≡◌, ◌-◌, ◌++◌, ℕ, length, map}
use Rattle.prolly_look_up.specs.Way.{level_of}
use Rattle.prolly_root.specs.ChunkFile.{ChunkFile, nth_in}
use Rattle.prolly_root.specs.ChunkSource.{GoesOverStill}
use Rattle.prolly_range.specs.Children.{met_of}
use Rattle.prolly_range.specs.Dues.{seen_due}
use Rattle.prolly_range.specs.Prover.{located_due}
use Rattle.prolly_range.proofs.Finds.{Finding}
use Rattle.prolly_range.proofs.located.locate.Given as goal

abbrev pub invariant-loop-child : goal.invariant-loop-child
invariant-loop-child g l = record {
  due : map located_due l.found.items ++ map (seen_due l.level) (map met_of l.met.items) ≡
      map (seen_due l.level) (map met_of l.fn.met.items);
  goes : GoesOverStill g.S.ChunkSource.goes_over l.fn.source l.source;
  failures : g.S.ChunkSource.failures l.source ≡ g.S.ChunkSource.failures l.fn.source;
  tells : (file : ChunkFile) (n from : ℕ) → g.S.ChunkSource.goes_over l.fn.source file →
      g.S.ChunkSource.stands file l.fn.place n from → l.level ≡ level_of (nth_in file n) →
      g.S.ChunkSource.stands file l.place n from ×
      Finding g.S.ChunkSource.stands file (l.level - 1) from l.found.items
      (map (λ m. m.number) (map met_of l.fn.met.items))
      (map (λ m. m.number) (map met_of l.met.items));
}

abbrev pub decreases-loop-child : goal.decreases-loop-child
decreases-loop-child g l = length l.met.items
