use Rattle.std.proofs.Common.{refl}
use Rattle.std.proofs.lemmas.Result.{on_ok_weaker}
use Rattle.prolly_root_diff.proofs.side.Side.pass_first.Goals as goal

pub returns : goal.returns
returns g c = on_ok_weaker c.put_others.result (λ put. record {
  first = c.in-Some.siblings;
  others = c.pop_front.new.self.items;
  was = c.in-Some.ensures.items;
  put = put;
  pairs = refl;
}) c.put_others.ensures
