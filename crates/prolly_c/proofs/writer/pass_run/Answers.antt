use Rattle.std.proofs.Common.{arith}
use Rattle.prolly_c.proofs.Entries.{shorter}
use Rattle.prolly_c.proofs.Writing.{passes_more, passes_some}
use Rattle.prolly_c.proofs.writer.pass_run.Goals as goal

pub returns-in_err-next-clause-passes : goal.returns-in_err-next-clause-passes
returns-in_err-next-clause-passes c = λ pairs tail spells long.
    absurd (passes_some c.args.entries.now pairs tail c.loop-count.count c.loop-count.rest.now
    (omega arith) c.in_err-next.ensures.none (c.loop-count.invariant.passes pairs tail spells long))

pub loop-count-preserved : goal.loop-count-preserved
loop-count-preserved c =
    let less = shorter c.loop-count.rest.now c.in_ok-next.next.now _ c.in_ok-next.ensures.some in
    record {
      shorter = omega arith;
      few = omega arith;
      begun = λ none. absurd (omega arith);
      passes = λ pairs tail spells long. passes_more c.args.entries.now pairs tail
          c.loop-count.count c.loop-count.rest.now c.in_ok-next.next.now _ (omega arith)
          c.in_ok-next.ensures.some (c.loop-count.invariant.passes pairs tail spells long);
    }
