use Rattle.std.proofs.Common.{rules}
use Rattle.prolly_io.proofs.ReadBehind.{read_fills}
use Rattle.prolly_io.proofs.device.read_buffer.read_behind.Goals as goal

pub returns-clause-fills : goal.returns-clause-fills
returns-clause-fills g c =
    read_fills c.read.result (g.S.Source.seen c.args.source.now).is_honest
    (g.S.Source.seen c.args.source.now).left (g.S.Source.seen c.read.new.self).left
    c.args.bytes.now c.read.new.buf c.args.unparsed _
    c.requires.0 c.requires.1 (search rules) (search rules) (search rules) c.read.ensures.bytes
