use Rattle.std.proofs.Common.{◌≡◌, vec_len}
use Rattle.prolly_build.proofs.links.new_pairs.Given as goal

abbrev pub invariant-loop : goal.invariant-loop
invariant-loop l = vec_len l.forks ≡ l.counter
