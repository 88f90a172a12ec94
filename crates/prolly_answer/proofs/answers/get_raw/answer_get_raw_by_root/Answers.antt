use Rattle.prolly_answer.proofs.FoundByRoot.{raw_shown}
use Rattle.prolly_answer.proofs.answers.get_raw.answer_get_raw_by_root.Goals as goal

pub returns : goal.returns
returns g c = raw_shown _ _ _ _ _ c.value_in-found.result c.answer_found_raw.result
    c.value_in-found.ensures.found c.value_in-found.ensures.refuses c.value_in-found.ensures.reads
    c.answer_found_raw.ensures
