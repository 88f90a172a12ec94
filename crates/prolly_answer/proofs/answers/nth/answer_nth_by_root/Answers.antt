use Rattle.prolly_answer.proofs.FoundByRoot.{pair_shown}
use Rattle.prolly_answer.proofs.answers.nth.answer_nth_by_root.Goals as goal

pub returns-in-Two-clause-shown : goal.returns-in-Two-clause-shown
returns-in-Two-clause-shown g c = rw c.in-Two.is
    (pair_shown _ _ _ _ _ c.args.notation c.pair_in-found.result c.answer_found_pair.result
    c.pair_in-found.ensures.found c.pair_in-found.ensures.refuses c.pair_in-found.ensures.reads
    c.answer_found_pair.ensures.shown)
