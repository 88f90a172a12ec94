use Rattle.std.proofs.Common.{rules}
use Rattle.prolly_look_up.proofs.step.test_chunk.Goals as goal

pub returns-in_err-test_named-clause-err : goal.returns-in_err-test_named-clause-err
returns-in_err-test_named-clause-err c =
    let flawed = c.in_err-test_named.ensures.err c.args.above in search rules
