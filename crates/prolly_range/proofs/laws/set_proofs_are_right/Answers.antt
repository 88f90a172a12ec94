use Rattle.prolly_range.proofs.Taking.{set_proofs_are_right, taken_are_right}
use Rattle.prolly_range.proofs.laws.set_proofs_are_right.Goals as goal

pub returns : goal.returns
returns c = record {
  first = taken_are_right c.tops_are_read.ensures.root c.tops_are_read.ensures.child
      c.tops_are_read.ensures.read;
  all = set_proofs_are_right c.tops_are_read.ensures.root c.tops_are_read.ensures.child
      c.tops_are_read.ensures.read;
}
