use Rattle.std.proofs.Common.{◌≡◌, ◌-◌, ◌*◌, ◌≤◌, length, drop}
use Rattle.prolly_look_up.specs.Content.{Content, IsFileOf}
use Rattle.prolly_c.proofs.FileFrames.{IsWrittenTo}
use Rattle.prolly_c.proofs.writer.write_index.Given as goal

abbrev pub invariant-loop-chunk : goal.invariant-loop-chunk
invariant-loop-chunk l = record {
  within : length l.rest ≤ length l.bytes;
  few : 6 * l.written.pairs ≤ length l.bytes - length l.rest;
  fewer : l.written.runs ≤ l.written.pairs;
  room : length l.out ≡ length l.fn.out;
  behind : drop l.written.runs l.out ≡ drop l.written.runs l.fn.out;
  indexed : (content : Content) → IsFileOf l.bytes content →
      IsWrittenTo l.bytes l.rest content l.out l.written;
}

abbrev pub decreases-loop-chunk : goal.decreases-loop-chunk
decreases-loop-chunk l = length l.rest
