use Rattle.std.proofs.Common.{[], take, drop, ap, subst, ◌∙◌}
use Rattle.prolly_root.proofs.Starts.{TellsStart, all_bytes}
use Rattle.prolly_root.proofs.Walking.{begins_there}
use Rattle.prolly_root.proofs.file.walk.Walk.start.Goals as goal

pub returns-clause-is : goal.returns-clause-is
returns-clause-is g c file holds at =
    let bytes = (g.D.Device.seen c.args.device.now).bytes in
    let read = c.in_ok-count.ensures.bytes holds.honest ∙
    ap (λ n. take n (drop c.args.self.now.offset bytes)) c.read_at.auto.buf ∙
    ap (λ bytes. take 10 (drop c.args.self.now.offset bytes)) holds.are in
    begins_there holds.cut at (subst
    (λ bytes. TellsStart c.args.self.now.number bytes c.start_in.result) read (record {
      are = all_bytes _ c.start_in.ensures.bytes;
      ends = c.start_in.ensures.end;
      begins = λ len level. c.start_in.ensures.chunk len level [];
      empty = c.start_in.ensures.empty;
      cut = c.start_in.ensures.cut;
      other = c.start_in.ensures.other;
    }))
