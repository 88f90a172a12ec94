use Rattle.std.proofs.Common.{◌≡◌, ◌≤◌, ◌∙◌, arith, ap, drop, length}
use Rattle.prolly_io.specs.ReadBuffer.{Held}
use Rattle.prolly_io.specs.Span.{part}
use Rattle.prolly_io.proofs.Spans.{part_behind}
use Rattle.prolly_io.proofs.device.read_buffer.ReadBuffer.consume.Goals as goal

pub returns-clause-unparsed : goal.returns-clause-unparsed
returns-clause-unparsed g c =
    let s = c.self.inside in
    let unparsed : part s.bytes.items s.unparsed ≡ c.args.self.now.unparsed =
    ap (λ (h : Held). h.unparsed) c.self.view_is in
    let fits : c.args.len ≤ length (part s.bytes.items s.unparsed) =
    omega (arith, ap length unparsed, c.requires) in
    part_behind s.bytes.items s.unparsed.start s.unparsed.end c.args.len fits ∙
    ap (drop c.args.len) unparsed
