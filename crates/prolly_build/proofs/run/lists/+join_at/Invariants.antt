use Rattle.prolly_build.proofs.run.lists.+join_at.Given as goal

abbrev pub decreases-join_at : goal.decreases-join_at
decreases-join_at g l = l.at
