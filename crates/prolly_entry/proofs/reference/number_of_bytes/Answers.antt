use borrow.Author.Rules.{get_or_read}
use Rattle.std.proofs.lemmas.Grind.{common_steps}
use Rattle.std.proofs.Common.{arith, rules}
use Rattle.prolly_entry.proofs.Powers.{push_below}
use Rattle.prolly_entry.proofs.reference.number_of_bytes.Goals as goal

pub overflow_mul-number : goal.overflow_mul-number
overflow_mul-number c =
    omega (
      arith,
      push_below 256 c.loop-byte.byte-index 8 c.loop-byte.number 0
          c.loop-byte.invariant.0 (omega arith) (omega arith),
    )

pub overflow_add-number : goal.overflow_add-number
overflow_add-number c = grind (arith, common_steps) steps 2000000

pub loop-byte-preserved : goal.loop-byte-preserved
loop-byte-preserved c = grind (arith, common_steps) steps 2000000

pub returns-clause-spelled : goal.returns-clause-spelled
returns-clause-spelled c = grind (arith, common_steps) steps 2000000

pub returns-clause-in_range : goal.returns-clause-in_range
returns-clause-in_range c = search (rules, get_or_read)
