use Rattle.prolly_answer.proofs.FoundByRoot.{value_shown}
use Rattle.prolly_answer.proofs.answers.get.answer_get_by_root.Goals as goal

pub returns : goal.returns
returns g c = value_shown _ _ _ _ _ c.args.notation c.value_in-found.result c.answer_found.result
    c.value_in-found.ensures.found c.value_in-found.ensures.refuses c.value_in-found.ensures.reads
    c.answer_found.ensures
