use Rattle.prolly_root_diff.proofs.LeafRuns.{all_leaves_are_right, first_leaves_are_right}
use Rattle.prolly_root_diff.proofs.LeafTrees.{leaves_begin, leaves_open}
use Rattle.prolly_root_diff.proofs.laws.leaves_are_right.Goals as goal

pub returns : goal.returns
returns c =
    let begins = leaves_begin c.tops_are_read.ensures.root in
    let opens = leaves_open c.tops_are_read.ensures.child c.tops_are_read.ensures.read in
    record {
      begins = begins;
      opens = opens;
      first = first_leaves_are_right begins opens;
      all = all_leaves_are_right begins opens;
    }
