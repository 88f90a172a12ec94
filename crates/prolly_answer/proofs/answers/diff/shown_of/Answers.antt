use Rattle.prolly_answer.proofs.Counting.{line_shown}
use Rattle.prolly_answer.proofs.answers.diff.shown_of.Goals as goal

pub returns : goal.returns
returns c = line_shown c.stat_line.result (λ out. out.items) c.args.counts.now
    c.missing_from.result c.args.stat c.args.old_tree.now c.args.new_tree.now c.if-not-stat.false
    c.missing_from.ensures c.stat_line.ensures
