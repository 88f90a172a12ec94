use Rattle.std.proofs.Common.{ap}
use Rattle.prolly_load.proofs.WriterSteps.{closed}
use Rattle.prolly_load.proofs.writer.RecordWriterOutRecord.close.Goals as goal

pub invariant_of-result : goal.invariant_of-result
invariant_of-result g c =
    let s = c.self.inside in (
      closed (g.W.Sink.seen s.begun.value) (g.W.Sink.seen s.sink)
          (g.W.Sink.seen c.finish-has_failed.new.sink) s.sent s.has_failed
          c.finish-has_failed.result c.self.invariant.0
          (λ e. let alone = c.finish-has_failed.ensures.alone e in (alone.0, ap g.W.Sink.seen alone.1))
          c.finish-has_failed.ensures.flushed c.finish-has_failed.ensures.settled,
      c.self.invariant.1,
    )
