use Rattle.std.proofs.Common.{◌≡◌, ◌<◌, ◌^◌, All, drop}
use Rattle.prolly_entry.specs.Byte.{IsByte}
use Rattle.prolly_entry.specs.Reference.{number_of}
use Rattle.prolly_entry.proofs.reference.write_bytes.Given as goal

abbrev pub invariant-loop-index : goal.invariant-loop-index
invariant-loop-index l =
    (l.number < 256 ^ l.index) × (number_of l.number (drop l.index l.bytes) ≡ l.fn.number) ×
    All IsByte (drop l.index l.bytes)
