use Rattle.std.proofs.Common.{◌≡◌, ◌<◌, ◌^◌, take}
use Rattle.prolly_entry.specs.Reference.{number_of}
use Rattle.prolly_entry.proofs.reference.number_of_bytes.Given as goal

abbrev pub invariant-loop-byte : goal.invariant-loop-byte
invariant-loop-byte l = (l.number < 256 ^ l.byte-index) ×
    (l.number ≡ number_of 0 (take l.byte-index l.bytes))
