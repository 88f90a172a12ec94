use Rattle.std.proofs.Common.{inr}
use Rattle.std.proofs.lemmas.Result.{on_ok_weaker}
use Rattle.prolly_root_diff.proofs.due_trees.put_others.Goals as goal

pub returns : goal.returns
returns g c = on_ok_weaker c.put_first.result (λ put. inr (
  c.pass.new.self,
  c.pass.ensures.more c.if-not-pass.false,
  put,
)) c.put_first.ensures
