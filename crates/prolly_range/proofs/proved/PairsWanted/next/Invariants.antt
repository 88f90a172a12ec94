use Rattle.std.proofs.Common.{◌≡◌, length}
use Rattle.prolly_range.specs.KeySet.{pairs_wanted, set_of}
use Rattle.prolly_range.proofs.proved.PairsWanted.next.Given as goal

abbrev pub invariant-loop-key : goal.invariant-loop-key
invariant-loop-key l = record {
  same : pairs_wanted (set_of l.initial.self-inside.set) l.initial.self-inside.pairs ≡
      pairs_wanted (set_of l.self-inside.set) l.self-inside.pairs;
  set : l.self-inside.set ≡ l.initial.self-inside.set;
}

abbrev pub decreases-loop-key : goal.decreases-loop-key
decreases-loop-key l = length l.self-inside.pairs
