use Rattle.std.proofs.Common.{ℕ, List, vec_len}
use Rattle.prolly_check.specs.Follower.{ClosesAll}
use Rattle.prolly_look_up.specs.HeldPairs.{bytes_in}
use Rattle.prolly_check.proofs.verdict.levels.close_all.Given as goal

abbrev pub invariant-loop-alloc : goal.invariant-loop-alloc
invariant-loop-alloc l = (after : List (List ℕ)) →
    ClosesAll l.nodes.items (bytes_in l.due.items) after →
    ClosesAll l.initial.nodes.items (bytes_in l.initial.due.items) after

abbrev pub decreases-loop-alloc : goal.decreases-loop-alloc
decreases-loop-alloc l = vec_len l.nodes
