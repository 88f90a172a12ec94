use Rattle.std.proofs.Common.{◌≡◌, ◌<◌, ◌^◌, take}
use Rattle.prolly_entry.specs.Reference.{characters}
use Rattle.prolly_entry.proofs.reference.number_of_characters.Given as goal

abbrev pub invariant-loop-byte : goal.invariant-loop-byte
invariant-loop-byte l = (l.number < 32 ^ l.byte-index) ×
    (characters l.byte-index l.number ≡ take l.byte-index l.text)
