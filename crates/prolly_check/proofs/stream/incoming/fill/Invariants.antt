use Rattle.std.proofs.Common.{◌≡◌, ◌≤◌, ◌^◌, ◌-◌, ◌++◌, true}
use Rattle.prolly_check.specs.Incoming.{WasRead}
use Rattle.prolly_check.proofs.stream.incoming.fill.Given as goal

abbrev pub invariant-loop-bytes : goal.invariant-loop-bytes
invariant-loop-bytes g l = record {
  source : WasRead (g.S.Source.seen l.initial.source) (g.S.Source.seen l.source) ×
      ((g.S.Source.seen l.source).failures ≡ (g.S.Source.seen l.initial.source).failures);
  bytes : (g.S.Source.seen l.initial.source).is_honest ≡ true →
      l.initial.bytes.items ++ (g.S.Source.seen l.initial.source).left ≡
      l.bytes.items ++ (g.S.Source.seen l.source).left;
  wanted : 30 ≤ l.wanted;
}

abbrev pub decreases-loop-bytes : goal.decreases-loop-bytes
decreases-loop-bytes g l = 2 ^ 64 - l.wanted
