use Rattle.std.proofs.Common.{length}
use Rattle.prolly_look_up.specs.lemmas.EntryLists.{AreRead}
use Rattle.prolly_look_up.proofs.entries.Pairs.last_key_and_count.Given as goal

abbrev pub invariant-loop-key : goal.invariant-loop-key
invariant-loop-key l = AreRead l.fn.self l.self l.last l.count

abbrev pub decreases-loop-key : goal.decreases-loop-key
decreases-loop-key l = length l.self
