use Rattle.prolly_range.specs.KeySet.{set_of}
use Rattle.prolly_answer.proofs.SetSteps.{set_told}
use Rattle.prolly_answer.proofs.answers.set_verify.write_set.Goals as goal

pub returns-clause-ended : goal.returns-clause-ended
returns-clause-ended g c = set_told g.W.Sink.seen c.args.notation c.args.version
    c.args.root.now.0 (set_of c.args.set) (g.S.Source.seen c.args.source.now).is_honest
    (g.S.Source.seen c.args.source.now).left c.args.sink.now c.write_chunks-outcome.new.sink
    c.settled.new.sink c.write_chunks-outcome.result c.settled.result
    c.write_chunks-outcome.ensures.ended c.settled.ensures
