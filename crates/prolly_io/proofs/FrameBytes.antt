-- The bytes of a frame.
use Rattle.std.proofs.Common.{◌≡◌, ℕ, suc, ◌+◌, ◌^◌, ◌<◌, ◌≤◌, List, [], ◌∷◌, ◌++◌, length, take}
use Rattle.std.proofs.Common.{drop, get_or, sym, ap, ◌∙◌, arith, append_assoc, length-drop, inl}
use Rattle.std.proofs.Common.{inr}
use Rattle.std.proofs.Common.{slice_index}
use Rattle.std.specs.Int.{w64, to_be_bytes, from_be_bytes}
use Rattle.std.proofs.lemmas.Nat.{be_bytes_8}
use Rattle.std.proofs.lemmas.Bool.{cases_lt}
use Rattle.std.proofs.lemmas.List.{length-take, length-take-le, get_or-take, get_or_past}
use Rattle.std.proofs.lemmas.List.{take-append-drop, drop-drop}
use Rattle.prolly_io.specs.Frame.{framed, BeginsFrame}

abbrev pub IsBytes : List ℕ → Type 0
IsBytes bytes = (i : ℕ) → get_or bytes i 0 < 256

IsBytes-take : (n : ℕ) (bytes : List ℕ) → IsBytes bytes → IsBytes (take n bytes)
IsBytes-take n bytes h i =
    elim (cases_lt i n) [
      | inl lt ↦ rw (get_or-take n bytes i 0 lt) (h i)
      | inr le ↦ rw (get_or_past (take n bytes) i 0 (omega (arith, length-take n bytes)))
          (omega arith)
    ]

frame_here : (rest : List ℕ) (size : ℕ) → IsBytes rest → 8 + size ≤ length rest →
    size ≡ from_be_bytes w64 (take 8 rest) →
    rest ≡ to_be_bytes w64 (length (take size (drop 8 rest))) ++
    (take size (drop 8 rest) ++ drop size (drop 8 rest))
frame_here rest size h le e =
    let r = drop 8 rest in
    let eight : length (take 8 rest) ≡ 8 = length-take-le 8 rest (omega arith) in
    let spelled : to_be_bytes w64 size ≡ take 8 rest =
    be_bytes_8 (take 8 rest) size eight (IsBytes-take 8 rest h) e in
    let long : length (take size r) ≡ size = length-take-le size r
    (omega (arith, length-drop 8 rest)) in
    sym (take-append-drop 8 rest) ∙ ap (λ x. x ++ r) (sym spelled ∙ ap (to_be_bytes w64) (sym long))
    ∙ ap (λ x. to_be_bytes w64 (length (take size r)) ++ x) (sym (take-append-drop size r))

pub frame_found : (bytes : List ℕ) (size : ℕ) → IsBytes bytes → slice_index bytes 0 ≡ 0x43 →
    9 + size ≤ length bytes → size < 2 ^ 64 →
    size ≡ from_be_bytes w64 (take 8 (drop 1 bytes)) → BeginsFrame bytes size
frame_found [] size h first le small e = absurd (omega arith)
frame_found (b ∷ rest) size h first le small e =
    let le' : 9 + size ≤ suc (length rest) = le in
    let chunk = take size (drop 8 rest) in
    let there : drop size (drop 8 rest) ≡ drop (9 + size) (b ∷ rest) =
    drop-drop size 9 (b ∷ rest) in
    record {
      within = le;
      small = small;
      is = ap (λ x. x ∷ rest) first ∙ ap (λ x. 0x43 ∷ x)
          (frame_here rest size (λ i. h (suc i)) (omega arith) e)
          ∙ sym (append_assoc (0x43 ∷ to_be_bytes w64 (length chunk)) chunk
          (drop size (drop 8 rest))) ∙ ap (λ x. framed chunk ++ x) there;
    }
