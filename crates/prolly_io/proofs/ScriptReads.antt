-- What a script hands out of its bytes, from an offset on.
use Rattle.std.proofs.Common.{◌≡◌, ◌∙◌, ℕ, ◌+◌, ◌-◌, ◌≤◌, ◌<◌, ◌++◌, true, List, [], length, min}
use Rattle.std.proofs.Common.{take, drop, arith, sym, ap, subst, length-drop}
use Rattle.std.proofs.lemmas.List.{drop-drop, length-take-le, nil_from_length, take-append-drop}
use Rattle.std.proofs.lemmas.List.Elements.{All-drop}
use Rattle.std.proofs.Math.Seq.{take-append_seam, take-length}
use Rattle.prolly_entry.specs.Byte.{IsByte}
use Rattle.prolly_io.specs.Bytes.{are_bytes}
use Rattle.prolly_io.specs.BytesLaws.{bytes_from_test, test_from_bytes}

-- `&bytes[at..]`
rest-slice : (bytes : List ℕ) (at : ℕ) → take (length bytes - at) (drop at bytes) ≡ drop at bytes
rest-slice bytes at = ap (λ k. take k (drop at bytes)) (sym (length-drop at bytes)) ∙
    take-length (drop at bytes)

-- The same of a slice that shows other bytes.
seen_rest : (bytes seen : List ℕ) (at : ℕ) → seen ≡ bytes →
    take (length seen - at) (drop at seen) ≡ drop at bytes
seen_rest bytes seen at same = rest-slice seen at ∙ ap (drop at) same

-- Where the next n bytes are copied into the buffer, it has them and the rest is left.
handed : (bytes old buf : List ℕ) (at n : ℕ) → n ≤ length (drop at bytes) →
    buf ≡ take n (drop at bytes) ++ drop n old
    → drop at bytes ≡ take n buf ++ drop (at + n) bytes
handed bytes old buf at n fits copied =
    let size : length (take n (drop at bytes)) ≡ n = length-take-le n (drop at bytes) fits in
    let given : take n buf ≡ take n (drop at bytes) =
    ap (take n) copied ∙ (ap (λ k. take k (take n (drop at bytes) ++ drop n old)) (sym size) ∙
    take-append_seam (take n (drop at bytes)) (drop n old)) in
    sym (take-append-drop n (drop at bytes)) ∙
    (ap (λ xs. xs ++ drop n (drop at bytes)) (sym given) ∙
    ap (λ xs. take n buf ++ xs) (drop-drop n at bytes))

-- The same, as the code sees the bytes.
pub handed_out : (bytes seen old buf : List ℕ) (at n step : ℕ) → seen ≡ bytes
    → n ≡ min step (min (length old) (length (take (length seen - at) (drop at seen))))
    → buf ≡ take n (take (length seen - at) (drop at seen)) ++ drop n old →
    drop at bytes ≡ take n buf ++ drop (at + n) bytes
handed_out bytes seen old buf at n step same count copied =
    let rest = seen_rest bytes seen at same in
    let fits : n ≡ min step (min (length old) (length (drop at bytes))) =
    count ∙ ap (λ (xs : List ℕ). min step (min (length old) (length xs))) rest in
    handed bytes old buf at n (omega arith) (copied ∙ ap (λ (xs : List ℕ). take n xs ++ drop n old)
    rest)

-- Where a step is of a byte or more, the buffer has room and nothing was copied, nothing is left.
pub all_given : (bytes seen old : List ℕ) (at n step : ℕ) → 0 < step → seen ≡ bytes
    → n ≡ min step (min (length old) (length (take (length seen - at) (drop at seen)))) → n ≡ 0 →
    0 < length old
    → drop (at + n) bytes ≡ []
all_given bytes seen old at n step moves same count none more =
    let rest = seen_rest bytes seen at same in
    let fits : n ≡ min step (min (length old) (length (drop at bytes))) =
    count ∙ ap (λ (xs : List ℕ). min step (min (length old) (length xs))) rest in
    let over : length (drop at bytes) ≡ 0 = omega arith in
    nil_from_length (drop (at + n) bytes) (omega (
      arith,
      length-drop at bytes,
      length-drop (at + n) bytes,
    ))

-- Where the bytes from an offset on are bytes, so are those from a later one on.
pub rest_are_bytes : (bytes : List ℕ) (at n : ℕ) → are_bytes (drop at bytes) ≡ true →
    are_bytes (drop (at + n) bytes) ≡ true
rest_are_bytes bytes at n tested =
    let rest = drop at bytes in
    let kept = All-drop IsByte n rest (bytes_from_test rest tested) in
    subst (λ (xs : List ℕ). are_bytes xs ≡ true) (drop-drop n at bytes)
    (test_from_bytes (drop n rest) kept)
