use Rattle.prolly_answer.proofs.Counting.{line_made}
use Rattle.prolly_answer.proofs.answers.diff.stat_line.Goals as goal

pub returns : goal.returns
returns c = line_made _ _ _ _ _ _ _ _ _ _ _ _ c.new-line.ensures.items
    c.in_ok-append_count.ensures c.in_ok-append_count-2.ensures c.in_ok-append_count-3.ensures
    c.in_ok-append_count-4.ensures c.in_ok-append_count-5.ensures c.in_ok-push.ensures.items
