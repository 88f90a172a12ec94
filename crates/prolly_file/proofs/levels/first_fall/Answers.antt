use Rattle.std.proofs.Common.{rules, arith}
use Rattle.prolly_file.proofs.Rises.{rises_on, falls_there}
use Rattle.prolly_file.proofs.levels.first_fall.Goals as goal

pub returns-then-not-is_lt-clause-some : goal.returns-then-not-is_lt-clause-some
returns-then-not-is_lt-clause-some c =
    falls_there c.args.pairs.now c.loop-place.place c.index-pairs-place.result
    c.index-pairs-place-in-loop-place.result (omega arith) (omega arith)
    c.index-pairs-place.is c.index-pairs-place-in-loop-place.is (search rules)
    c.loop-place.invariant

pub loop-place-preserved : goal.loop-place-preserved
loop-place-preserved c =
    rises_on c.args.pairs.now c.loop-place.place c.index-pairs-place.result
    c.index-pairs-place-in-loop-place.result (omega arith) (omega arith)
    c.index-pairs-place.is c.index-pairs-place-in-loop-place.is (search rules)
    c.loop-place.invariant
