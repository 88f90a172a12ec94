use Rattle.std.proofs.Common.{◌≡◌, ◌<◌, ◌≤◌, ◌-◌, ◌^◌, ◌++◌, true}
use Rattle.prolly_check.specs.ChunksRead.{BodyRead}
use Rattle.prolly_check.specs.Incoming.{WasRead}
use Rattle.prolly_check.proofs.stream.root_checker.check_body.Given as goal

abbrev pub invariant-loop-read : goal.invariant-loop-read
invariant-loop-read g l = record {
  source : WasRead (g.S.Source.seen l.fn.source) (g.S.Source.seen l.source) ×
      ((g.S.Source.seen l.source).failures ≡ (g.S.Source.seen l.fn.source).failures);
  read : (g.S.Source.seen l.fn.source).is_honest ≡ true →
      BodyRead (l.fn.bytes.items ++ (g.S.Source.seen l.fn.source).left) l.bytes.items
      (g.S.Source.seen l.source).left l.read l.size;
  few : (l.read.count ≤ l.size) × (l.size < 2 ^ 64);
  cut : l.read.follower.cut ≡ l.fn.header.bits;
  version : l.read.follower.version ≡ l.fn.header.version;
}

abbrev pub decreases-loop-read : goal.decreases-loop-read
decreases-loop-read g l = 2 ^ 64 - l.size
