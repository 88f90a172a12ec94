use Rattle.prolly_root_diff.proofs.side.Side.of_root.Goals as goal

pub returns : goal.returns
returns g c = record { none = c.none.ensures; at = c.in_ok-whole_tree.ensures }
