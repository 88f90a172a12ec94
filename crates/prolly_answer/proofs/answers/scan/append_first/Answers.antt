use Rattle.std.proofs.Common.{length, sym, ap, ◌∙◌, arith}
use Rattle.prolly_answer.proofs.FirstLines.{no_more, none_within, one_line}
use Rattle.prolly_answer.proofs.answers.scan.append_first.Goals as goal

pub loop-left-preserved : goal.loop-left-preserved
loop-left-preserved c =
    let next = c.in-Some.ensures.next in
    let left = c.loop-left.invariant.left in record {
      lines = one_line c.args.notation _ c.loop-left.leaf c.next.new.self c.loop-left.left
          c.loop-left.lines.items _ (omega arith) next c.in_ok-append_line.ensures ∙
          c.loop-left.invariant.lines;
      left = omega (arith, left, ap length next);
    }

pub returns-in_default-clause-lines : goal.returns-in_default-clause-lines
returns-in_default-clause-lines c =
    sym (no_more c.args.notation c.loop-left.leaf c.loop-left.left c.loop-left.lines.items
    c.in_default.ensures.next) ∙ c.loop-left.invariant.lines

pub returns-clause-lines : goal.returns-clause-lines
returns-clause-lines c =
    sym (none_within c.args.notation c.loop-left.leaf c.loop-left.left c.loop-left.lines.items
    (omega arith)) ∙ c.loop-left.invariant.lines
