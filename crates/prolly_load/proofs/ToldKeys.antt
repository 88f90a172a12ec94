-- The key of a flawed record, where the flaw lies behind it.
use Rattle.std.specs.Prelude.{if◌then◌else◌, nat_lt}
use Rattle.std.proofs.Common.{◌≡◌, ℕ, ◌+◌, ◌≤◌, Bool, true, false, List, [], ◌++◌, length, take}
use Rattle.std.proofs.Common.{drop, Option, Some, refl, sym, ap, ◌∙◌, arith, length-drop}
use Rattle.std.proofs.lemmas.Bool.{ltb-false}
use Rattle.std.proofs.lemmas.List.{append-nil, take-append-le, drop-append-le}
use Rattle.std.specs.Int.{w16, from_be_bytes}
use Rattle.prolly_entry.specs.declared.next.Flaw.{Flaw}
use Rattle.prolly_entry.specs.declared.next.Flaw.TheVariants as flaws
use Rattle.prolly_entry.specs.NextRecord.{IsFlawed}
use Rattle.prolly_entry.specs.Position.{Position}
use Rattle.prolly_entry.specs.Reading.{key_length, next_flaw}
use Rattle.prolly_load.specs.Survey.{told_key}
use Rattle.prolly_load.specs.Tally.{HasToldKey}

-- Where a later question than the fourth is answered, the fourth was no.
fourth_passed : (a b c d : Bool) (rest t : Option Flaw) → (Some flaws.TooManyRecords ≡ t → ⊥) →
    (Some flaws.Truncated ≡ t → ⊥) → (Some flaws.KeyTooLong ≡ t → ⊥) →
    (if a then Some flaws.TooManyRecords
    else (if b then Some flaws.Truncated
    else (if c then Some flaws.KeyTooLong
    else (if d then Some flaws.Truncated else rest)))) ≡ t →
    d ≡ false
fourth_passed true b c d rest t x y z h = absurd (x h)
fourth_passed false true c d rest t x y z h = absurd (y h)
fourth_passed false false true d rest t x y z h = absurd (z h)
fourth_passed false false false true rest t x y z h = absurd (y h)
fourth_passed false false false false rest t x y z h = refl

-- Then the key is whole.
key_whole : (limit count : ℕ) (position : Position) (bytes : List ℕ) (t : Option Flaw) →
    (Some flaws.TooManyRecords ≡ t → ⊥) → (Some flaws.Truncated ≡ t → ⊥) →
    (Some flaws.KeyTooLong ≡ t → ⊥) → next_flaw limit count position bytes ≡ t →
    6 + key_length bytes ≤ length bytes
key_whole limit count position bytes t x y z h =
    ltb-false (length bytes) (6 + key_length bytes)
    (fourth_passed _ _ _ (nat_lt (length bytes) (6 + key_length bytes)) _ t x y z h)

-- A flaw that is decided by the bytes at hand has its key among them, where it lies behind it.
pub has_told_key : (limit count : ℕ) (position : Position) (bytes : List ℕ) (flaw : Flaw) →
    IsFlawed limit count position bytes flaw → HasToldKey flaw bytes
has_told_key limit count position bytes flaws.Truncated h = tt
has_told_key limit count position bytes flaws.KeyTooLong h = tt
has_told_key limit count position bytes flaws.TooManyRecords h = tt
has_told_key limit count position bytes flaws.ValueTooLong h =
    let whole = key_whole limit count position bytes (Some flaws.ValueTooLong) (λ e. cc) (λ e. cc)
    (λ e. cc) (ap (next_flaw limit count position) (sym (append-nil bytes)) ∙ h.is []) in
    omega arith
has_told_key limit count position bytes flaws.OutOfOrder h =
    let whole = key_whole limit count position bytes (Some flaws.OutOfOrder) (λ e. cc) (λ e. cc)
    (λ e. cc) (ap (next_flaw limit count position) (sym (append-nil bytes)) ∙ h.is []) in
    omega arith

whole_stays : (bytes more : List ℕ) → 2 + key_length bytes ≤ length bytes →
    take (key_length (bytes ++ more)) (drop 2 (bytes ++ more)) ≡
    take (key_length bytes) (drop 2 bytes)
whole_stays bytes more h =
    let n = key_length bytes in
    let same : key_length (bytes ++ more) ≡ n =
    ap (from_be_bytes w16) (take-append-le 2 bytes more (omega arith)) in
    ap (λ k. take k (drop 2 (bytes ++ more))) same
    ∙ (ap (take n) (drop-append-le 2 bytes more (omega arith))
    ∙ take-append-le n (drop 2 bytes) more (omega (arith, length-drop 2 bytes)))

-- The key that is told is the same whatever bytes follow.
pub told_stays : (flaw : Flaw) (bytes more : List ℕ) → HasToldKey flaw bytes →
    told_key flaw (bytes ++ more) ≡ told_key flaw bytes
told_stays flaws.Truncated bytes more h = refl
told_stays flaws.KeyTooLong bytes more h = refl
told_stays flaws.TooManyRecords bytes more h = refl
told_stays flaws.ValueTooLong bytes more h = ap Some (whole_stays bytes more h)
told_stays flaws.OutOfOrder bytes more h = ap Some (whole_stays bytes more h)
