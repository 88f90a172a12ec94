use Rattle.std.proofs.Common.{◌≡◌, ◌-◌, ◌<◌, ◌^◌, ◌++◌, true, length}
use Rattle.prolly_text.proofs.Skipping.{HasSkipped}
use Rattle.prolly_text.proofs.lines.buffer.skip_line.Given as goal

abbrev pub invariant-loop-buffer : goal.invariant-loop-buffer
invariant-loop-buffer g l = record {
  skipped : (g.S.Source.seen l.initial.source).is_honest ≡ true →
      HasSkipped (l.initial.buffer.unparsed ++ (g.S.Source.seen l.initial.source).left)
      (l.buffer.unparsed ++ (g.S.Source.seen l.source).left) l.passed;
  honest : (g.S.Source.seen l.initial.source).is_honest ≡ true →
      (g.S.Source.seen l.source).is_honest ≡ true;
  steady : (g.S.Source.seen l.initial.source).is_steady ≡ true →
      (g.S.Source.seen l.source).is_steady ≡ true;
  failures : (g.S.Source.seen l.source).failures ≡ (g.S.Source.seen l.initial.source).failures;
  some : 0 < length l.buffer.unparsed;
}

-- Each time at least one byte more is passed.
abbrev pub decreases-loop-buffer : goal.decreases-loop-buffer
decreases-loop-buffer g l = 2 ^ 64 - l.passed
