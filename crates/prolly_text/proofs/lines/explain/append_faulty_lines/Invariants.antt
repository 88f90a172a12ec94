use Rattle.std.proofs.Common.{◌≡◌, ◌-◌, ◌≤◌, ◌^◌, ◌++◌, true}
use Rattle.std.specs.Io.{StartsWith}
use Rattle.prolly_text.proofs.Explaining.{IsUnderWay}
use Rattle.prolly_text.proofs.lines.explain.append_faulty_lines.Given as goal

abbrev pub invariant-loop-faulty : goal.invariant-loop-faulty
invariant-loop-faulty g l = record {
  under_way : (g.S.Source.seen l.initial.source).is_honest ≡ true →
      IsUnderWay l.form l.limit (g.S.Source.seen l.initial.source).left
      (l.buffer.unparsed ++ (g.S.Source.seen l.source).left) l.place l.initial.out.items
      l.out.items l.faulty;
  honest : (g.S.Source.seen l.initial.source).is_honest ≡ true →
      (g.S.Source.seen l.source).is_honest ≡ true;
  steady : (g.S.Source.seen l.initial.source).is_steady ≡ true →
      (g.S.Source.seen l.source).is_steady ≡ true;
  failures : (g.S.Source.seen l.source).failures ≡ (g.S.Source.seen l.initial.source).failures;
  number : l.place.number ≤ l.place.offset;
  few : l.faulty ≤ l.limit;
  kept : StartsWith l.out.items l.initial.out.items;
}

-- Each line has at least one byte.
abbrev pub decreases-loop-faulty : goal.decreases-loop-faulty
decreases-loop-faulty g l = 2 ^ 64 - l.place.offset
