use Rattle.std.proofs.Common.{sym, ◌∙◌, arith}
use Rattle.prolly_answer.proofs.FirstLines.{leaf_lines, no_more, none_within}
use Rattle.prolly_answer.proofs.answers.scan.first_lines.Goals as goal

pub loop-left-preserved : goal.loop-left-preserved
loop-left-preserved c =
    leaf_lines c.args.notation c.loop-left.leaves c.in-Some.leaf c.next.new.self c.loop-left.left
    c.in_ok-left.left c.loop-left.lines.items _ c.in-Some.ensures.next c.in_ok-left.ensures.lines
    c.in_ok-left.ensures.left ∙ c.loop-left.invariant

pub returns-in_default : goal.returns-in_default
returns-in_default c =
    sym (no_more c.args.notation c.loop-left.leaves c.loop-left.left c.loop-left.lines.items
    c.in_default.ensures.next) ∙ c.loop-left.invariant

pub returns : goal.returns
returns c =
    sym (none_within c.args.notation c.loop-left.leaves c.loop-left.left c.loop-left.lines.items
    (omega arith)) ∙ c.loop-left.invariant
