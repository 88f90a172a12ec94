-- Bytes that are read behind a part of others.
use Rattle.std.specs.Prelude.{Bool, true, Result, Ok, Err, IfOk}
use Rattle.std.specs.Result.{result_unwrap_or}
use Rattle.prolly_io.specs.Source.{HandsOut}
use Rattle.prolly_io.specs.ReadBuffer.{Fills}
use Rattle.prolly_io.specs.declared.device.read_buffer.Span.{Span}
use Rattle.prolly_io.specs.Span.{part}
use Rattle.std.proofs.Common.{◌≡◌, ℕ, ◌+◌, ◌-◌, ◌<◌, ◌≤◌, List, ◌++◌, length, take, drop, sym, ap}
use Rattle.std.proofs.Common.{◌∙◌, arith}
use Rattle.std.proofs.lemmas.List.{length-take-le, append-nil, drop-take}
use Rattle.std.proofs.lemmas.List.{drop-append-le}
use borrow.Rule.Slice.PartMut.{put_mid}
use Rattle.prolly_io.proofs.Fronts.{front_is}

-- A part grows by the first bytes that are put behind it.
grown : (bytes buf : List ℕ) (unparsed : Span) (k n : ℕ) → unparsed.start ≤ unparsed.end →
    unparsed.end ≤ length bytes → length buf ≡ k → n ≤ k →
    part (put_mid unparsed.end k bytes buf) (record unparsed { end = unparsed.end + n }) ≡
    part bytes unparsed ++ take n buf
grown bytes buf unparsed k n order h room few =
    let all = put_mid unparsed.end k bytes buf in
    let split : unparsed.end + n ≡ unparsed.start + (unparsed.end + n - unparsed.start) =
    omega arith in
    let left : unparsed.end ≡ unparsed.start + (unparsed.end - unparsed.start) = omega arith in
    let size : length (take unparsed.end bytes) ≡ unparsed.end =
    length-take-le unparsed.end bytes h in
    sym (ap (λ m. drop unparsed.start (take m all)) split ∙
    drop-take unparsed.start (unparsed.end + n - unparsed.start) all)
    ∙ (ap (drop unparsed.start) (front_is unparsed.end k n bytes buf h room few)
    ∙ (drop-append-le unparsed.start (take unparsed.end bytes) (take n buf) (omega arith)
    ∙ ap (λ xs. xs ++ take n buf) (ap (λ m. drop unparsed.start (take m bytes)) left ∙
    drop-take unparsed.start (unparsed.end - unparsed.start) bytes)))

pub read_fills : {E : Type 0} (result : Result ℕ E) (honest : Bool) (left left' bytes buf : List ℕ)
    (unparsed : Span) (k : ℕ) → unparsed.start ≤ unparsed.end → unparsed.end < length bytes →
    k ≡ length bytes - unparsed.end → length buf ≡ k → IfOk result (λ n. n ≤ length buf) →
    (honest ≡ true → HandsOut left left' result buf) →
    Fills honest left left' (part bytes unparsed) (part (put_mid unparsed.end k bytes buf)
    (record unparsed { end = unparsed.end + result_unwrap_or result 0 })) result
read_fills (Ok n) honest left left' bytes buf unparsed k order h room size bound hands = record {
  given = take n buf;
  behind = grown bytes buf unparsed k n order (omega arith) size (omega arith);
  size = length-take-le n buf bound;
  first = λ e. (hands e).0;
  over = λ e none. (hands e).1 none (omega arith);
}
read_fills (Err _) honest left left' bytes buf unparsed k order h room size bound hands = record {
  same = grown bytes buf unparsed k 0 order (omega arith) size (omega arith) ∙
      append-nil (part bytes unparsed);
  kept = hands;
}
