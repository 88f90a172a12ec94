-- How a command reads its input, and what it says of one that it can't read whole.
use Rattle.std.specs.Prelude.{ℕ, ◌<◌, ◌≤◌, List, length}
use Rattle.prolly_fault.specs.declared.fault.Fault.{Fault}
use Rattle.prolly_fault.specs.declared.fault.Fault.TheVariants.{Memory, Read, InputTooLong}

-- The input was read whole: it is no longer than a command reads, and no read failed.
pub record IsReadWhole (bytes : List ℕ) (has_failed : Type 0) : Type 0 where
  pub within : length bytes ≤ 1073741824
  pub unfailed : ¬ has_failed

-- The input can't be read: a read failed; or none did, and memory was refused, as it may be at any
-- input, or there are more bytes than a command reads.
abbrev pub IsInputFault : List ℕ → Type 0 → Fault → Type 0
IsInputFault bytes has_failed Memory = ¬ has_failed
IsInputFault bytes has_failed Read = has_failed
IsInputFault bytes has_failed InputTooLong = ¬ has_failed × (1073741824 < length bytes)
IsInputFault bytes has_failed _ = ⊥
