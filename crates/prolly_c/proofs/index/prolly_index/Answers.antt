use Rattle.std.proofs.Common.{take, arith}
use Rattle.prolly_c.proofs.Cursors.{at_start}
use Rattle.prolly_c.proofs.index.prolly_index.Goals as goal

pub returns-clause-start : goal.returns-clause-start
returns-clause-start c = λ done content f. at_start c.args.bytes.now
    (take c.in-Some.runs c.write_index.new.out) content.pairs
    (c.in-Some.ensures.index content f (omega arith))
