use Rattle.std.proofs.Common.{refl}
use Rattle.prolly_root_diff.proofs.LeafSteps.{whole_due}
use Rattle.prolly_root_diff.proofs.root_leaves.RootLeaves.new.Goals as goal

pub returns : goal.returns
returns g c =
    let tree = c.in_ok-whole_tree.ensures in
    record { version_is = refl; at = tree; due = whole_due c.args.root.now.0 _ tree; goes = refl }
