use Rattle.prolly_look_up.specs.Entries.{pairs_in}
use Rattle.std.proofs.Common.{drop, ap}
use Rattle.prolly_root_diff.proofs.leaf.Leaf.none.Goals as goal

pub returns : goal.returns
unfolding pairs_in
returns c = ap (λ bytes. pairs_in (drop 0 bytes)) c.new.ensures.items
