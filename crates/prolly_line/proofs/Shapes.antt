-- The subcommands as clap builds them, and what stands in the rows of each where clap takes the
-- words.
use Rattle.std.proofs.Common.{◌≡◌, List, Some, refl, codes}
use Rattle.clap.specs.Simple.{App, Shape, built_leaf, inherited, marked_built, with_leaf_noted}
use Rattle.clap.specs.Walk.{Row}
use Rattle.clap.proofs.OnLiterals.{clap_on_literals}
use Rattle.prolly_line.proofs.Levels.{level_at, number_at, number_if_any, shape_at, word_at}
use Rattle.prolly_line.proofs.Passes.{Each, IsSound}
use Rattle.prolly_line.proofs.Sound.{all_sound}
use Rattle.prolly_line.specs.AcceptedWords.{HasNumber, HasWord, IsAccepted}
use Rattle.prolly_line.specs.AcceptedWords.{MayHaveNumber}
use Rattle.prolly_line.specs.Line.{apply_line, build_line, check_line, diff_line, dump_line}
use Rattle.prolly_line.specs.Line.{get_line, nth_line, pack_line, program_line, prove_line, root_line}
use Rattle.prolly_line.specs.Line.{scan_line, scratch_line, stat_line, verify_line}

-- a subcommand as it is built under the program's line
abbrev built_of : App → Shape
built_of line = built_leaf (inherited (with_leaf_noted (marked_built program_line.top)) line.top)

-- each argument is the one of its id
abbrev IsSoundShape : Shape → Type 0
IsSoundShape s = Each (IsSound s.rules) s.rules

-- Each shape below is opaque but for the lemmas that name it on an `unfolding` line, since it is
-- long when it is computed. `_found`: it is what its name stands for; `_sound`: its arguments have
-- names of their own; `takes_`: what stands in its rows where clap takes the words.

-- ---- pack

unfoldable pack_shape : Shape
pack_shape = built_of pack_line

pack_found : shape_at (codes "pack") ≡ Some pack_shape
unfolding clap_on_literals pack_shape
pack_found = refl

pack_sound : IsSoundShape pack_shape
unfolding clap_on_literals pack_shape
pack_sound = all_sound pack_shape.rules refl

pub record TakesPack (rows : List Row) : Type 0 where
  pub out : HasWord (codes "out") rows
  pub memory : MayHaveNumber (codes "memory") 16 4000 rows

pub takes_pack : (rows : List Row) → IsAccepted (codes "pack", rows) → TakesPack rows
unfolding clap_on_literals pack_shape
takes_pack rows accepted =
    let level = level_at (codes "pack") pack_shape rows pack_found accepted in
    record {
      out = word_at pack_shape rows (codes "out") pack_sound level refl refl;
      memory = number_if_any pack_shape rows (codes "memory") 16 4000 pack_sound level refl;
    }

-- ---- scratch

unfoldable scratch_shape : Shape
scratch_shape = built_of scratch_line

scratch_found : shape_at (codes "scratch") ≡ Some scratch_shape
unfolding clap_on_literals scratch_shape
scratch_found = refl

scratch_sound : IsSoundShape scratch_shape
unfolding clap_on_literals scratch_shape
scratch_sound = all_sound scratch_shape.rules refl

pub record TakesScratch (rows : List Row) : Type 0 where
  pub bits : MayHaveNumber (codes "bits") 0 24 rows
  pub chunk_bytes : MayHaveNumber (codes "chunk-bytes") 1 1073741824 rows
  pub format : HasNumber (codes "format") 1 2 rows

pub takes_scratch : (rows : List Row) → IsAccepted (codes "scratch", rows) → TakesScratch rows
unfolding clap_on_literals scratch_shape
takes_scratch rows accepted =
    let level = level_at (codes "scratch") scratch_shape rows scratch_found accepted in
    record {
      bits = number_if_any scratch_shape rows (codes "bits") 0 24 scratch_sound level refl;
      chunk_bytes = number_if_any scratch_shape rows (codes "chunk-bytes") 1 1073741824
          scratch_sound level refl;
      format = number_at scratch_shape rows (codes "format") 1 2 scratch_sound level refl refl;
    }

-- ---- build

unfoldable build_shape : Shape
build_shape = built_of build_line

build_found : shape_at (codes "build") ≡ Some build_shape
unfolding clap_on_literals build_shape
build_found = refl

build_sound : IsSoundShape build_shape
unfolding clap_on_literals build_shape
build_sound = all_sound build_shape.rules refl

pub record TakesBuild (rows : List Row) : Type 0 where
  pub bits : MayHaveNumber (codes "bits") 0 24 rows
  pub chunk_bytes : MayHaveNumber (codes "chunk-bytes") 1 1073741824 rows
  pub stages : HasNumber (codes "stages") 1 12 rows
  pub capacity : HasNumber (codes "capacity") 1 4096 rows
  pub max_records : HasNumber (codes "max-records") 1 16777216 rows
  pub batch : HasNumber (codes "batch") 1 1024 rows
  pub format : HasNumber (codes "format") 1 2 rows
  pub out : HasWord (codes "out") rows

pub takes_build : (rows : List Row) → IsAccepted (codes "build", rows) → TakesBuild rows
unfolding clap_on_literals build_shape
takes_build rows accepted =
    let level = level_at (codes "build") build_shape rows build_found accepted in
    record {
      bits = number_if_any build_shape rows (codes "bits") 0 24 build_sound level refl;
      chunk_bytes = number_if_any build_shape rows (codes "chunk-bytes") 1 1073741824 build_sound
          level refl;
      stages = number_at build_shape rows (codes "stages") 1 12 build_sound level refl refl;
      capacity = number_at build_shape rows (codes "capacity") 1 4096 build_sound level refl refl;
      max_records = number_at build_shape rows (codes "max-records") 1 16777216 build_sound level
          refl refl;
      batch = number_at build_shape rows (codes "batch") 1 1024 build_sound level refl refl;
      format = number_at build_shape rows (codes "format") 1 2 build_sound level refl refl;
      out = word_at build_shape rows (codes "out") build_sound level refl refl;
    }

-- ---- apply

unfoldable apply_shape : Shape
apply_shape = built_of apply_line

apply_found : shape_at (codes "apply") ≡ Some apply_shape
unfolding clap_on_literals apply_shape
apply_found = refl

apply_sound : IsSoundShape apply_shape
unfolding clap_on_literals apply_shape
apply_sound = all_sound apply_shape.rules refl

pub record TakesApply (rows : List Row) : Type 0 where
  pub root : HasWord (codes "root") rows
  pub bits : MayHaveNumber (codes "bits") 0 24 rows
  pub format : MayHaveNumber (codes "format") 1 2 rows
  pub old : HasWord (codes "old") rows
  pub out : HasWord (codes "out") rows

pub takes_apply : (rows : List Row) → IsAccepted (codes "apply", rows) → TakesApply rows
unfolding clap_on_literals apply_shape
takes_apply rows accepted =
    let level = level_at (codes "apply") apply_shape rows apply_found accepted in
    record {
      root = word_at apply_shape rows (codes "root") apply_sound level refl refl;
      bits = number_if_any apply_shape rows (codes "bits") 0 24 apply_sound level refl;
      format = number_if_any apply_shape rows (codes "format") 1 2 apply_sound level refl;
      old = word_at apply_shape rows (codes "old") apply_sound level refl refl;
      out = word_at apply_shape rows (codes "out") apply_sound level refl refl;
    }

-- ---- check

unfoldable check_shape : Shape
check_shape = built_of check_line

check_found : shape_at (codes "check") ≡ Some check_shape
unfolding clap_on_literals check_shape
check_found = refl

check_sound : IsSoundShape check_shape
unfolding clap_on_literals check_shape
check_sound = all_sound check_shape.rules refl

pub record TakesCheck (rows : List Row) : Type 0 where
  pub format : HasNumber (codes "format") 1 2 rows
  pub file : HasWord (codes "file") rows

pub takes_check : (rows : List Row) → IsAccepted (codes "check", rows) → TakesCheck rows
unfolding clap_on_literals check_shape
takes_check rows accepted =
    let level = level_at (codes "check") check_shape rows check_found accepted in
    record {
      format = number_at check_shape rows (codes "format") 1 2 check_sound level refl refl;
      file = word_at check_shape rows (codes "file") check_sound level refl refl;
    }

-- ---- root

unfoldable root_shape : Shape
root_shape = built_of root_line

root_found : shape_at (codes "root") ≡ Some root_shape
unfolding clap_on_literals root_shape
root_found = refl

root_sound : IsSoundShape root_shape
unfolding clap_on_literals root_shape
root_sound = all_sound root_shape.rules refl

pub record TakesRoot (rows : List Row) : Type 0 where
  pub file : HasWord (codes "file") rows

pub takes_root : (rows : List Row) → IsAccepted (codes "root", rows) → TakesRoot rows
unfolding clap_on_literals root_shape
takes_root rows accepted =
    let level = level_at (codes "root") root_shape rows root_found accepted in
    record {
      file = word_at root_shape rows (codes "file") root_sound level refl refl;
    }

-- ---- stat

unfoldable stat_shape : Shape
stat_shape = built_of stat_line

stat_found : shape_at (codes "stat") ≡ Some stat_shape
unfolding clap_on_literals stat_shape
stat_found = refl

stat_sound : IsSoundShape stat_shape
unfolding clap_on_literals stat_shape
stat_sound = all_sound stat_shape.rules refl

pub record TakesStat (rows : List Row) : Type 0 where
  pub file : HasWord (codes "file") rows

pub takes_stat : (rows : List Row) → IsAccepted (codes "stat", rows) → TakesStat rows
unfolding clap_on_literals stat_shape
takes_stat rows accepted =
    let level = level_at (codes "stat") stat_shape rows stat_found accepted in
    record {
      file = word_at stat_shape rows (codes "file") stat_sound level refl refl;
    }

-- ---- get

unfoldable get_shape : Shape
get_shape = built_of get_line

get_found : shape_at (codes "get") ≡ Some get_shape
unfolding clap_on_literals get_shape
get_found = refl

get_sound : IsSoundShape get_shape
unfolding clap_on_literals get_shape
get_sound = all_sound get_shape.rules refl

pub record TakesGet (rows : List Row) : Type 0 where
  pub format : HasNumber (codes "format") 1 2 rows
  pub file : HasWord (codes "file") rows

pub takes_get : (rows : List Row) → IsAccepted (codes "get", rows) → TakesGet rows
unfolding clap_on_literals get_shape
takes_get rows accepted =
    let level = level_at (codes "get") get_shape rows get_found accepted in
    record {
      format = number_at get_shape rows (codes "format") 1 2 get_sound level refl refl;
      file = word_at get_shape rows (codes "file") get_sound level refl refl;
    }

-- ---- scan

unfoldable scan_shape : Shape
scan_shape = built_of scan_line

scan_found : shape_at (codes "scan") ≡ Some scan_shape
unfolding clap_on_literals scan_shape
scan_found = refl

scan_sound : IsSoundShape scan_shape
unfolding clap_on_literals scan_shape
scan_sound = all_sound scan_shape.rules refl

pub record TakesScan (rows : List Row) : Type 0 where
  pub format : HasNumber (codes "format") 1 2 rows
  pub file : HasWord (codes "file") rows
  pub key : HasWord (codes "key") rows
  pub limit : HasNumber (codes "limit") 0 1000000 rows

pub takes_scan : (rows : List Row) → IsAccepted (codes "scan", rows) → TakesScan rows
unfolding clap_on_literals scan_shape
takes_scan rows accepted =
    let level = level_at (codes "scan") scan_shape rows scan_found accepted in
    record {
      format = number_at scan_shape rows (codes "format") 1 2 scan_sound level refl refl;
      file = word_at scan_shape rows (codes "file") scan_sound level refl refl;
      key = word_at scan_shape rows (codes "key") scan_sound level refl refl;
      limit = number_at scan_shape rows (codes "limit") 0 1000000 scan_sound level refl refl;
    }

-- ---- nth

unfoldable nth_shape : Shape
nth_shape = built_of nth_line

nth_found : shape_at (codes "nth") ≡ Some nth_shape
unfolding clap_on_literals nth_shape
nth_found = refl

nth_sound : IsSoundShape nth_shape
unfolding clap_on_literals nth_shape
nth_sound = all_sound nth_shape.rules refl

pub record TakesNth (rows : List Row) : Type 0 where
  pub format : HasNumber (codes "format") 1 2 rows
  pub file : HasWord (codes "file") rows
  pub n : HasNumber (codes "n") 0 4294967295 rows

pub takes_nth : (rows : List Row) → IsAccepted (codes "nth", rows) → TakesNth rows
unfolding clap_on_literals nth_shape
takes_nth rows accepted =
    let level = level_at (codes "nth") nth_shape rows nth_found accepted in
    record {
      format = number_at nth_shape rows (codes "format") 1 2 nth_sound level refl refl;
      file = word_at nth_shape rows (codes "file") nth_sound level refl refl;
      n = number_at nth_shape rows (codes "n") 0 4294967295 nth_sound level refl refl;
    }

-- ---- dump

unfoldable dump_shape : Shape
dump_shape = built_of dump_line

dump_found : shape_at (codes "dump") ≡ Some dump_shape
unfolding clap_on_literals dump_shape
dump_found = refl

dump_sound : IsSoundShape dump_shape
unfolding clap_on_literals dump_shape
dump_sound = all_sound dump_shape.rules refl

pub record TakesDump (rows : List Row) : Type 0 where
  pub format : HasNumber (codes "format") 1 2 rows
  pub file : HasWord (codes "file") rows

pub takes_dump : (rows : List Row) → IsAccepted (codes "dump", rows) → TakesDump rows
unfolding clap_on_literals dump_shape
takes_dump rows accepted =
    let level = level_at (codes "dump") dump_shape rows dump_found accepted in
    record {
      format = number_at dump_shape rows (codes "format") 1 2 dump_sound level refl refl;
      file = word_at dump_shape rows (codes "file") dump_sound level refl refl;
    }

-- ---- diff

unfoldable diff_shape : Shape
diff_shape = built_of diff_line

diff_found : shape_at (codes "diff") ≡ Some diff_shape
unfolding clap_on_literals diff_shape
diff_found = refl

diff_sound : IsSoundShape diff_shape
unfolding clap_on_literals diff_shape
diff_sound = all_sound diff_shape.rules refl

pub record TakesDiff (rows : List Row) : Type 0 where
  pub format : HasNumber (codes "format") 1 2 rows
  pub old : HasWord (codes "old") rows
  pub new : HasWord (codes "new") rows

pub takes_diff : (rows : List Row) → IsAccepted (codes "diff", rows) → TakesDiff rows
unfolding clap_on_literals diff_shape
takes_diff rows accepted =
    let level = level_at (codes "diff") diff_shape rows diff_found accepted in
    record {
      format = number_at diff_shape rows (codes "format") 1 2 diff_sound level refl refl;
      old = word_at diff_shape rows (codes "old") diff_sound level refl refl;
      new = word_at diff_shape rows (codes "new") diff_sound level refl refl;
    }

-- ---- prove

unfoldable prove_shape : Shape
prove_shape = built_of prove_line

prove_found : shape_at (codes "prove") ≡ Some prove_shape
unfolding clap_on_literals prove_shape
prove_found = refl

prove_sound : IsSoundShape prove_shape
unfolding clap_on_literals prove_shape
prove_sound = all_sound prove_shape.rules refl

pub record TakesProve (rows : List Row) : Type 0 where
  pub format : HasNumber (codes "format") 1 2 rows
  pub file : HasWord (codes "file") rows

pub takes_prove : (rows : List Row) → IsAccepted (codes "prove", rows) → TakesProve rows
unfolding clap_on_literals prove_shape
takes_prove rows accepted =
    let level = level_at (codes "prove") prove_shape rows prove_found accepted in
    record {
      format = number_at prove_shape rows (codes "format") 1 2 prove_sound level refl refl;
      file = word_at prove_shape rows (codes "file") prove_sound level refl refl;
    }

-- ---- verify

unfoldable verify_shape : Shape
verify_shape = built_of verify_line

verify_found : shape_at (codes "verify") ≡ Some verify_shape
unfolding clap_on_literals verify_shape
verify_found = refl

verify_sound : IsSoundShape verify_shape
unfolding clap_on_literals verify_shape
verify_sound = all_sound verify_shape.rules refl

pub record TakesVerify (rows : List Row) : Type 0 where
  pub root : HasWord (codes "root") rows
  pub format : HasNumber (codes "format") 1 2 rows

pub takes_verify : (rows : List Row) → IsAccepted (codes "verify", rows) → TakesVerify rows
unfolding clap_on_literals verify_shape
takes_verify rows accepted =
    let level = level_at (codes "verify") verify_shape rows verify_found accepted in
    record {
      root = word_at verify_shape rows (codes "root") verify_sound level refl refl;
      format = number_at verify_shape rows (codes "format") 1 2 verify_sound level refl refl;
    }
