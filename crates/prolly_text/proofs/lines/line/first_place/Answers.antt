use Rattle.std.proofs.Common.{length, arith}
use Rattle.prolly_text.proofs.Places.{none_before, stands_there}
use Rattle.prolly_text.proofs.lines.line.first_place.Goals as goal

pub returns-in-Some-clause-none : goal.returns-in-Some-clause-none
returns-in-Some-clause-none c = none_before c.args.byte c.args.bytes.now c.in-Some.place
    (omega (arith, c.in-Some.ensures.0.high)) c.in-Some.ensures.0.before

pub returns-in-Some-clause-there : goal.returns-in-Some-clause-there
returns-in-Some-clause-there c within =
    stands_there c.args.byte c.args.bytes.now c.in-Some.place within c.in-Some.ensures.1

pub returns-in-None-clause-none : goal.returns-in-None-clause-none
returns-in-None-clause-none c =
    none_before c.args.byte c.args.bytes.now (length c.args.bytes.now) (omega arith)
    c.in-None.ensures
