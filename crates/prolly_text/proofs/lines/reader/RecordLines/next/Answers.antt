use Rattle.std.proofs.Common.{◌++◌, ap, take}
use Rattle.prolly_text.proofs.Refusing.{line_ahead_refused}
use Rattle.prolly_text.proofs.lines.reader.RecordLines.next.Goals as goal

pub returns-in_err-record-clause-given : goal.returns-in_err-record-clause-given
returns-in_err-record-clause-given g c honest =
    let new = c.look_ahead.new in
    let s = c.self.inside in
    rw (← c.self.view_is) (line_ahead_refused s.form s.number (s.buffer.unparsed ++ (g.S.Source.seen c.args.source.now).left)
    new.buffer.unparsed (g.S.Source.seen new.source).left (take c.in-Line.len c.unparsed.result.now)
    c.in_ok-look_ahead.field-0 c.in-Line.len c.in-Line.size c.in_err-record.field-0.0
    c.from_residual-in_err-record.result c.from_residual-in_err-record.ensures.1 c.in-Line.is
    c.in_ok-look_ahead.ensures.within (c.in_ok-look_ahead.ensures.ahead honest)
    (ap (take c.in-Line.len) c.unparsed.ensures) c.in_err-record.ensures.err)
