use Rattle.std.proofs.Common.{arith}
use Rattle.std.proofs.lemmas.Grind.{common_steps}
use Rattle.prolly_c.proofs.scratch.prolly_scratch.Goals as goal

pub returns-then-len-out-clause-room : goal.returns-then-len-out-clause-room
returns-then-len-out-clause-room c = λ room. (
  omega arith,
  record {
    bytes = c.scratch_as.new.out.items;
    root = c.in-Ok-scratch_as.reference.0;
    is = record {
      format = c.in-Some-Some.format;
      format_is = grind (arith, common_steps);
      pairs = c.in-Ok.pairs.items;
      are = grind (arith, common_steps);
      bytes_are = grind (arith, common_steps);
      root_is = grind (arith, common_steps);
    };
    many = grind (arith, common_steps);
  },
)
