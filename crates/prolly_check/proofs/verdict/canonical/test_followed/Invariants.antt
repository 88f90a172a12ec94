use Rattle.std.proofs.Common.{◌≡◌, take}
use Rattle.prolly_check.specs.Follower.{Follows}
use Rattle.prolly_check.proofs.verdict.canonical.test_followed.Given as goal

abbrev pub invariant-loop-number : goal.invariant-loop-number
invariant-loop-number l = record {
  follows : Follows (take l.number l.chunks) l.follower;
  cut : l.follower.cut ≡ l.fn.cut;
  version : l.follower.version ≡ l.fn.version;
}
