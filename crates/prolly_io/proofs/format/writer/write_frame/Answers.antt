use Rattle.std.proofs.lemmas.Grind.{common_steps}
use Rattle.std.proofs.Common.{length, arith}
use Rattle.std.proofs.lemmas.Result.{err_from_is_err_and}
use Rattle.prolly_io.specs.Frame.{frame_start}
use Rattle.prolly_io.proofs.Written.{taken_of_first}
use Rattle.prolly_io.proofs.format.writer.write_frame.Goals as goal

pub returns-in_err-write_all : goal.returns-in_err-write_all
returns-in_err-write_all g c =
    let p = err_from_is_err_and c.from_residual.result c.from_residual.ensures.1 in
    let start = rw c.frame_start.ensures at c.in_err-write_all.ensures.writes in
    rw p.1 record {
      written = λ keeps. tt;
      part = λ keeps. taken_of_first _ _ (frame_start (length c.args.bytes.now)) c.args.bytes.now
          (start.part keeps);
      failures = start.failures;
      keeping = start.keeping;
    }

pub returns : goal.returns
returns g c = record {
  written = grind (arith, common_steps) steps 2000000;
  part = grind (arith, common_steps) steps 2000000;
  failures = grind (arith, common_steps) steps 2000000;
  keeping = grind (arith, common_steps) steps 2000000;
}
