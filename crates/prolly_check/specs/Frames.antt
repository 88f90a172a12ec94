-- The frames of a chunk file: where its chunks lie, and what follows them.
use Rattle.std.specs.List.{flat_map, AllByRecursion}
use Rattle.std.specs.Prelude.{◌≡◌, ℕ, ◌-◌, ◌≤◌, List, ◌++◌, length, take, drop, map, true, not}
use Rattle.std.specs.Prelude.{◌==◌, nat_lt, [], ◌∷◌, Result, Ok, Err, if◌then◌else◌}
use Rattle.std.specs.declared.ops.Range.{Range}
use Rattle.prolly_io.specs.Frame.{framed, IsSmall, has_no_frame}
use Rattle.prolly_check.specs.declared.verdict.fault.CheckFault.{CheckFault}
use Rattle.prolly_check.specs.declared.verdict.fault.CheckFault.TheVariants.{Truncated, Trailing}
use Rattle.prolly_check.specs.declared.verdict.fault.CheckFault.TheVariants.{BadFrame}

-- The chunk that lies there.
abbrev pub chunk_in : List ℕ → Range ℕ → List ℕ
chunk_in bytes span = take (span.end - span.start) (drop span.start bytes)

-- The chunks that lie there.
abbrev pub chunks_in : List ℕ → List (Range ℕ) → List (List ℕ)
chunks_in bytes spans = map (chunk_in bytes) spans

-- The chunk lies within the bytes.
abbrev pub IsWithin : List ℕ → Range ℕ → Type 0
IsWithin bytes span = (span.start ≤ span.end) × (span.end ≤ length bytes)

-- From the one offset on the frames of the chunks go up to the other.
pub record FramesTo (bytes : List ℕ) (from : ℕ) (spans : List (Range ℕ)) (offset : ℕ) : Type 0 where
  pub reached : offset ≤ length bytes
  pub spelled : drop from bytes ≡ flat_map framed (chunks_in bytes spans) ++ drop offset bytes
  pub small : AllByRecursion IsSmall (chunks_in bytes spans)
  pub within : AllByRecursion (IsWithin bytes) spans

-- What follows the last whole frame, which has this number: the 28 bytes behind an end record's
-- first, or a fault.
abbrev pub ending_of : ℕ → List ℕ → Result (List ℕ) CheckFault
ending_of number [] = Err Truncated
ending_of number (b ∷ rest) =
    if b == 0x43 then Err Truncated
    else (if not (b == 0x45) then Err (BadFrame number)
    else (if nat_lt (length rest) 28 then Err Truncated
    else (if nat_lt 28 (length rest) then Err Trailing else Ok rest)))

-- The bytes are the frames of the chunks, and then this ending.
pub record IsFramed (bytes : List ℕ) (chunks : List (List ℕ)) (ending : Result (List ℕ) CheckFault)
    : Type 0 where
  pub tail : List ℕ
  pub spelled : bytes ≡ flat_map framed chunks ++ tail
  pub small : AllByRecursion IsSmall chunks
  -- no frame is left out
  pub all : has_no_frame tail ≡ true
  pub is : ending_of (length chunks) tail ≡ ending
