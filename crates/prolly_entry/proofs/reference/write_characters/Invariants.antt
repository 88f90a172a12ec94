use Rattle.std.proofs.Common.{◌≡◌, ◌++◌, length, drop}
use Rattle.prolly_entry.specs.Reference.{characters}
use Rattle.prolly_entry.proofs.reference.write_characters.Given as goal

abbrev pub invariant-loop-index : goal.invariant-loop-index
invariant-loop-index l = characters l.index l.number ++ drop l.index l.text ≡
    characters (length l.text) l.fn.number
