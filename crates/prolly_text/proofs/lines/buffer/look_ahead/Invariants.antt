use Rattle.std.proofs.Common.{◌≡◌, ◌≢◌, ◌-◌, ◌≤◌, ◌++◌, true, All, length, take}
use Rattle.prolly_text.proofs.lines.buffer.look_ahead.Given as goal

abbrev pub invariant-loop-scanned : goal.invariant-loop-scanned
invariant-loop-scanned g l = record {
  same : (g.S.Source.seen l.initial.source).is_honest ≡ true →
      l.initial.buffer.unparsed ++ (g.S.Source.seen l.initial.source).left ≡
      l.buffer.unparsed ++ (g.S.Source.seen l.source).left;
  honest : (g.S.Source.seen l.initial.source).is_honest ≡ true →
      (g.S.Source.seen l.source).is_honest ≡ true;
  steady : (g.S.Source.seen l.initial.source).is_steady ≡ true →
      (g.S.Source.seen l.source).is_steady ≡ true;
  failures : (g.S.Source.seen l.source).failures ≡ (g.S.Source.seen l.initial.source).failures;
  within : l.scanned ≤ length l.buffer.unparsed;
  none : All (λ b. b ≢ 0x0A) (take l.scanned l.buffer.unparsed);
}

-- A read is one byte more, where there are not too many.
abbrev pub decreases-loop-scanned : goal.decreases-loop-scanned
decreases-loop-scanned g l = 266242 - length l.buffer.unparsed
