use Rattle.std.proofs.Common.{◌≡◌, ◌<◌, ◌≤◌, ◌-◌, ◌++◌, true, length, take, vec_len}
use Rattle.prolly_io.proofs.device.part_reader.PartReader.read_up_to.Given as goal

abbrev pub invariant-loop-part : goal.invariant-loop-part
invariant-loop-part g l = record {
  honest : (g.S.Source.seen l.initial.source).is_honest ≡ true →
      (g.S.Source.seen l.source).is_honest ≡ true;
  bytes : (g.S.Source.seen l.initial.source).is_honest ≡ true →
      l.initial.bytes.items ++ (g.S.Source.seen l.initial.source).left ≡
      l.bytes.items ++ (g.S.Source.seen l.source).left;
  failures : (g.S.Source.seen l.source).failures ≡ (g.S.Source.seen l.initial.source).failures;
  steady : (g.S.Source.seen l.initial.source).is_steady ≡ true →
      (g.S.Source.seen l.source).is_steady ≡ true;
  room : 0 < length l.part;
  within : vec_len l.initial.bytes ≤ l.wanted → vec_len l.bytes ≤ l.wanted;
  more : length l.initial.bytes.items ≤ length l.bytes.items;
  grows : take (length l.initial.bytes.items) l.bytes.items ≡ l.initial.bytes.items;
}

abbrev pub decreases-loop-part : goal.decreases-loop-part
decreases-loop-part g l = l.wanted - vec_len l.bytes
