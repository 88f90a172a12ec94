-- The header, byte by byte.
use Rattle.std.proofs.Common.{◌≡◌, ℕ, suc, ◌+◌, ◌<◌, ◌≤◌, Bool, true, false, cond, List, length}
use Rattle.std.proofs.Common.{drop, get_or, slice_index, Option, Some, ◌∙◌, arith}
use Rattle.std.proofs.Math.Seq.{drop-cons}
use Rattle.std.proofs.lemmas.Bool.{cond-true, cond-false}
use Rattle.std.proofs.lemmas.List.{drop_all}
use Rattle.prolly_io.specs.declared.format.header.HeaderFault.{HeaderFault}
use Rattle.prolly_io.specs.declared.format.header.HeaderFault.TheVariants.{BadByte, Truncated}
use Rattle.prolly_io.specs.Header.{header_fault}

-- what is wrong from an offset on
abbrev pub at : List (ℕ → Bool) → List ℕ → ℕ → Option HeaderFault
at tests bytes offset = header_fault (drop offset tests) (drop offset bytes)

module _ (tests : List (ℕ → Bool)) (bytes : List ℕ) (offset : ℕ) (tested : offset < length tests)
  where
    abbrev passes : Bool
    passes = get_or tests offset (λ b. true) (slice_index bytes offset)

    next : offset < length bytes → at tests bytes offset ≡ cond passes (at tests bytes (offset + 1))
        (Some BadByte)
    next there =
        let e : offset + 1 ≡ suc offset = omega arith in
        rw (drop-cons tests offset (λ b. true) tested, drop-cons bytes offset 0 there, e)

    pub goes_on : offset < length bytes → passes ≡ true →
        at tests bytes offset ≡ at tests bytes (offset + 1)
    goes_on there e = next there ∙ cond-true passes (at tests bytes (offset + 1)) (Some BadByte) e

    pub stops : offset < length bytes → passes ≡ false → at tests bytes offset ≡ Some BadByte
    stops there e = next there ∙ cond-false passes (at tests bytes (offset + 1)) (Some BadByte) e

    pub ends : length bytes ≤ offset → at tests bytes offset ≡ Some Truncated
    ends past = rw (drop_all offset bytes past, drop-cons tests offset (λ b. true) tested)
