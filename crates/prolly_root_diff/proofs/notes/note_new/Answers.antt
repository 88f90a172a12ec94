use Rattle.std.proofs.Common.{refl}
use Rattle.prolly_root_diff.proofs.notes.note_new.Goals as goal

pub returns-in_ok-push-in-Some : goal.returns-in_ok-push-in-Some
returns-in_ok-push-in-Some c = rw c.in-Some.is (_, refl, refl, c.in_ok-push-in-Some.ensures.items)
