use Rattle.std.proofs.Common.{vec_len}
use Rattle.prolly_build.proofs.run.files.+meet_all.Given as goal

abbrev pub decreases-meet_all : goal.decreases-meet_all
decreases-meet_all g l = vec_len l.closed
