use Rattle.prolly_build.proofs.RanSteps.{all_written}
use Rattle.prolly_build.proofs.run.writer.write_chunks.Goals as goal

pub returns : goal.returns
returns g c = all_written c.args.config c.args.last _ _ c.write_events-written.new.input
    c.write_events-written.result.1 c.write_events-written.result.0
    c.bits.result c.last_level.result c.write_events-written.ensures.link
    c.write_events-written.ensures.ended c.write_events-written.ensures.end
    c.bits.ensures.value c.last_level.ensures.value c.requires
    (c.write_events-written.ensures.written _ _
    (rw (← c.version.ensures) (c.begin-begun.ensures c.last_level.result)))
