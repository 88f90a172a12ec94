use Rattle.std.proofs.Common.{◌≡◌, ◌∷◌, ap, ◌∙◌}
use Rattle.prolly_check.proofs.ChunkSteps.{record_decided}
use Rattle.prolly_check.proofs.stream.chunks_read.ChunksRead.finish.Goals as goal

pub returns-in-69-clause-ends : goal.returns-in-69-clause-ends
returns-in-69-clause-ends c = λ chunks more r few decided.
    let is : c.args.bytes.now ≡ 0x45 ∷ c.in-Some.rest.now =
    c.in-Some.ensures.cases.0 ∙ ap (λ b. b ∷ c.in-Some.rest.now) c.in-69.is in
    rw is (c.test_end_record.ensures.ends chunks more r few
    (record_decided c.args.bytes.now c.in-Some.rest.now more is decided))
