use Rattle.prolly_build.proofs.run.lists.+fork_at.Given as goal

abbrev pub decreases-fork_at : goal.decreases-fork_at
decreases-fork_at g l = l.at
