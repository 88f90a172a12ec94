use Rattle.std.proofs.Common.{◌≡◌, ◌≤◌, ◌-◌, ◌∙◌, Some, List, ℕ, arith, ap, take, drop, length}
use Rattle.prolly_io.specs.ReadBuffer.{Held}
use Rattle.prolly_io.specs.Span.{part}
use Rattle.prolly_io.proofs.Spans.{part_within, part_behind}
use Rattle.prolly_io.proofs.device.read_buffer.ReadBuffer.consume_keeping.Goals as goal

pub returns-clause-kept : goal.returns-clause-kept
returns-clause-kept g c =
    let s = c.self.inside in
    let unparsed : part s.bytes.items s.unparsed ≡ c.args.self.now.unparsed =
    ap (λ (h : Held). h.unparsed) c.self.view_is in
    let fits : c.args.kept.end ≤ length (part s.bytes.items s.unparsed) =
    omega (arith, ap length unparsed, c.requires.len) in
    ap Some (part_within s.bytes.items s.unparsed.start s.unparsed.end c.args.kept.start c.args.kept.end
    c.requires.kept.0 fits
    ∙ ap (λ (xs : List ℕ). take (c.args.kept.end - c.args.kept.start) (drop c.args.kept.start xs)) unparsed)

pub returns-clause-unparsed : goal.returns-clause-unparsed
returns-clause-unparsed g c =
    let s = c.self.inside in
    let unparsed : part s.bytes.items s.unparsed ≡ c.args.self.now.unparsed =
    ap (λ (h : Held). h.unparsed) c.self.view_is in
    let fits : c.args.len ≤ length (part s.bytes.items s.unparsed) =
    omega (arith, ap length unparsed, c.requires.len) in
    part_behind s.bytes.items s.unparsed.start s.unparsed.end c.args.len fits ∙
    ap (drop c.args.len) unparsed
