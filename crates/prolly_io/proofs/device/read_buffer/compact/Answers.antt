use Rattle.std.proofs.Common.{rules, ◌∙◌}
use Rattle.prolly_io.proofs.Spans.{same_behind}
use Rattle.prolly_io.proofs.device.read_buffer.compact.Goals as goal

pub returns-clause-unparsed : goal.returns-clause-unparsed
returns-clause-unparsed g c =
    c.move_down-2.ensures.moved
    ∙ same_behind c.args.bytes.now c.move_down-kept.new.bytes c.in-Some.kept.end c.args.unparsed
    (search rules) c.move_down-kept.ensures.behind
