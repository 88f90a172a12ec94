use Rattle.std.proofs.lemmas.Grind.{common_steps}
use Rattle.std.proofs.Common.{arith}
use Rattle.prolly_file.proofs.scratch_build.append_parts.Goals as goal

pub returns-in_err-extend_from_slice-clause-err : goal.returns-in_err-extend_from_slice-clause-err
returns-in_err-extend_from_slice-clause-err c = grind (arith, common_steps) steps 2000000

pub returns-in_err-extend_from_slice-2-clause-err
    : goal.returns-in_err-extend_from_slice-2-clause-err
returns-in_err-extend_from_slice-2-clause-err c = grind (arith, common_steps) steps 2000000

pub returns-in_err-extend_from_slice-3-clause-err
    : goal.returns-in_err-extend_from_slice-3-clause-err
returns-in_err-extend_from_slice-3-clause-err c = grind (arith, common_steps) steps 2000000

pub loop-chunk-preserved : goal.loop-chunk-preserved
loop-chunk-preserved c = grind (arith, common_steps) steps 2000000

pub returns-clause-ok : goal.returns-clause-ok
returns-clause-ok c = grind (arith, common_steps) steps 2000000

pub returns-clause-err : goal.returns-clause-err
returns-clause-err c = grind (arith, common_steps) steps 2000000
