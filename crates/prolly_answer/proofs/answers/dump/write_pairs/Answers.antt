use Rattle.prolly_answer.proofs.DumpSteps.{file_dumped, file_stopped}
use Rattle.prolly_answer.proofs.answers.dump.write_pairs.Goals as goal

pub returns-in-Ok-clause-ok : goal.returns-in-Ok-clause-ok
returns-in-Ok-clause-ok g c = λ content is. file_dumped g.W.Sink.seen c.args.form c.in-Records.is
    content.pairs c.args.sink.now c.write_records.new.sink _ (c.in-Ok.ensures.written content is)
    c.in-Ok.ensures.settled

pub returns-in-Err-clause-err : goal.returns-in-Err-clause-err
returns-in-Err-clause-err g c = λ content is. file_stopped g.W.Sink.seen c.args.form
    c.in-Records.is content.pairs c.args.sink.now c.write_records.new.sink _
    (c.in-Err.ensures.written content is)
