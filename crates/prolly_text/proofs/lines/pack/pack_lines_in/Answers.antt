use Rattle.std.proofs.lemmas.Grind.{common_steps}
use Rattle.std.proofs.Common.{rules, arith}
use Rattle.std.proofs.lemmas.List.{nil_from_length}
use Rattle.prolly_text.proofs.PackSteps.{none_packed, one_packed, all_packed, line_refused}
use Rattle.prolly_text.proofs.lines.pack.pack_lines_in.Goals as goal

pub loop-rest-init : goal.loop-rest-init
loop-rest-init c = none_packed c.args.form c.args.text.now c.args.out.now.items

pub loop-rest-preserved : goal.loop-rest-preserved
loop-rest-preserved c =
    one_packed c.args.form c.args.text.now c.args.out.now.items c.loop-rest.out.items
    c.pack_line.new.out.items
    c.loop-rest.rest.now c.split_line.result.0.now
    c.split_line.result.1.now c.loop-rest.count c.loop-rest.invariant c.split_line.ensures.lines
    c.split_line.ensures.shorter (search rules)

pub returns-clause-ok : goal.returns-clause-ok
returns-clause-ok c =
    all_packed c.args.form c.args.text.now c.args.out.now.items c.loop-rest.out.items
    c.loop-rest.rest.now
    c.loop-rest.count c.loop-rest.invariant
    (nil_from_length c.loop-rest.rest.now (search rules))

pub returns-in-Err-clause-unchanged : goal.returns-in-Err-clause-unchanged
returns-in-Err-clause-unchanged c = grind (arith, common_steps) steps 2000000

pub returns-in-Err-clause-err : goal.returns-in-Err-clause-err
returns-in-Err-clause-err c =
    line_refused c.args.form c.args.text.now c.args.out.now.items c.loop-rest.out.items
    c.loop-rest.rest.now c.split_line.result.0.now c.split_line.result.1.now c.loop-rest.count
    c.in-Err.fault c.loop-rest.invariant c.split_line.ensures.lines c.in-Err.ensures.err
