use Rattle.std.proofs.Common.{◌+◌, ◌-◌, arith}
use Rattle.prolly_entry.proofs.Digits.{character-letter, character_range}
use Rattle.prolly_entry.proofs.reference.digit_of.Goals as goal

pub returns-in-97-to-118-clause-read : goal.returns-in-97-to-118-clause-read
returns-in-97-to-118-clause-read c =
    omega (arith, character-letter (c.args.byte - 97 + 10) (omega arith) (omega arith))

pub returns-in_default-clause-none : goal.returns-in_default-clause-none
returns-in_default-clause-none c written = grind (arith, character_range c.args.byte written)

pub returns-in_default-2-clause-none : goal.returns-in_default-2-clause-none
returns-in_default-2-clause-none c written = grind (arith, character_range c.args.byte written)

pub returns-in_default-3-clause-none : goal.returns-in_default-3-clause-none
returns-in_default-3-clause-none c written = grind (arith, character_range c.args.byte written)
