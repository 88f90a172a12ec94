use Rattle.std.proofs.Common.{◌≡◌, ◌≤◌, ◌-◌, ◌++◌, true, length, take}
use Rattle.prolly_io.proofs.device.source.take_front.Given as goal

abbrev pub invariant-loop-count : goal.invariant-loop-count
invariant-loop-count g l = record {
  honest : (g.S.Source.seen l.initial.source).is_honest ≡ true →
      (g.S.Source.seen l.source).is_honest ≡ true;
  bytes : (g.S.Source.seen l.initial.source).is_honest ≡ true →
      (g.S.Source.seen l.initial.source).left ≡
      take l.count l.front ++ (g.S.Source.seen l.source).left;
  failures : (g.S.Source.seen l.source).failures ≡ (g.S.Source.seen l.initial.source).failures;
  steady : (g.S.Source.seen l.initial.source).is_steady ≡ true →
      (g.S.Source.seen l.source).is_steady ≡ true;
  within : l.count ≤ length l.front;
  size : length l.front ≡ length l.initial.front;
}

abbrev pub decreases-loop-count : goal.decreases-loop-count
decreases-loop-count g l = length l.front - l.count
