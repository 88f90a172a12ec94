use Rattle.std.proofs.Common.{take}
use Rattle.prolly_entry.specs.Keys.{Rising}
use Rattle.prolly_file.specs.Scratch.{keys_in}
use Rattle.prolly_file.proofs.levels.first_fall.Given as goal

abbrev pub invariant-loop-place : goal.invariant-loop-place
invariant-loop-place l = Rising (keys_in (take l.place l.pairs))
