use Rattle.std.proofs.Common.{vec_len}
use Rattle.prolly_build.proofs.run.loaders.+load_all.Given as goal

abbrev pub decreases-load_all : goal.decreases-load_all
decreases-load_all g l = vec_len l.outs
