use Rattle.std.proofs.Common.{length, ◌-◌, rules}
use Rattle.prolly_io.proofs.PlacedReads.{grown_if_known}
use Rattle.prolly_io.proofs.device.from_file.fill_from.Goals as goal

pub loop-filled-preserved : goal.loop-filled-preserved
loop-filled-preserved g c = record {
  within = search rules;
  size = search rules;
  bytes = grown_if_known (g.F.PlacedRead.known c.args.file.now) c.loop-filled.filled c.args.offset
      c.in-Some.at (length c.loop-filled.buf - c.loop-filled.filled) c.in_ok-count.count
      c.loop-filled.buf c.read_again_at.new.buf (search rules) c.loop-filled.invariant.within
      (search rules) (search rules) c.loop-filled.invariant.bytes c.in_ok-count.ensures.bytes;
}
