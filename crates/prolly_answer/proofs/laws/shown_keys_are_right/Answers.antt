use Rattle.prolly_answer.proofs.ShownKeys.{shown_keys_are_right}
use Rattle.prolly_answer.proofs.laws.shown_keys_are_right.Goals as goal

pub returns : goal.returns
returns c = shown_keys_are_right c.set_proofs_are_right.ensures.first c.keys_are_found.ensures
