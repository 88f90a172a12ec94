use Rattle.std.proofs.Common.{◌≡◌, ◌<◌, ◌≤◌, length}
use Rattle.prolly_tree.specs.Tree.{last_key}
use Rattle.prolly_look_up.specs.lemmas.EntryLists.{key_at_end}
use Rattle.prolly_look_up.proofs.entries.Pairs.last_key.Given as goal

abbrev pub invariant-loop-key : goal.invariant-loop-key
invariant-loop-key l = record {
  some : 0 < length l.self;
  key : last_key l.self ≡ key_at_end l.last l.pairs;
  short : length l.last ≤ 1024;
}

abbrev pub decreases-loop-key : goal.decreases-loop-key
decreases-loop-key l = length l.pairs
