use Rattle.std.proofs.lemmas.Grind.{common_steps}
use Rattle.std.proofs.Common.{◌+◌, ◌<◌, arith}
use Rattle.std.proofs.lemmas.List.{take_more}
use Rattle.prolly_entry.proofs.Digits.{characters_more}
use Rattle.prolly_entry.proofs.Powers.{push_below}
use Rattle.prolly_entry.proofs.reference.number_of_characters.Goals as goal

pub overflow_mul-number : goal.overflow_mul-number
overflow_mul-number c =
    omega (
      arith,
      push_below 32 c.loop-byte.byte-index 12 c.loop-byte.number 0
          c.loop-byte.invariant.0 (omega arith) (omega arith),
    )

pub overflow_add-number : goal.overflow_add-number
overflow_add-number c =
    let digit_below = c.in_ok-digit_of.ensures.below in
    omega (
      arith,
      push_below 32 c.loop-byte.byte-index 12 c.loop-byte.number c.from.result
          c.loop-byte.invariant.0 (omega (arith, digit_below)) (omega arith),
    )

pub loop-byte-preserved : goal.loop-byte-preserved
loop-byte-preserved c =
    let i = c.loop-byte.byte-index in
    let digit = c.from.result in
    let digit_below : digit < 32 = omega (arith, c.in_ok-digit_of.ensures.below) in
    let pushed = characters_more i c.loop-byte.number digit digit_below in
    let read = take_more c.args.text.now i 0 (omega arith) in (
      push_below 32 i (i + 1) c.loop-byte.number digit c.loop-byte.invariant.0 digit_below
          (omega arith),
      cc (pushed, read, c.loop-byte.invariant.1, c.in_ok-digit_of.ensures.read),
    )

pub returns-clause-read : goal.returns-clause-read
returns-clause-read c = grind (arith, common_steps) steps 2000000
