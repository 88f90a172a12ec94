-- A frame, and what stands behind it.
use Rattle.std.proofs.Common.{◌≡◌, ℕ, ◌+◌, false, nat_lt, List, [], ◌∷◌, ◌++◌, length, map}
use Rattle.std.specs.List.{flat_map}
use Rattle.std.proofs.Common.{refl, sym, ap, ◌∙◌, arith, append_assoc}
use Rattle.std.specs.Int.{w64, to_be_bytes, from_be_bytes}
use Rattle.std.proofs.lemmas.Nat.{from_be_bytes-to_be_bytes_8}
use Rattle.std.proofs.lemmas.List.{length-append}
use Rattle.std.proofs.lemmas.Bool.{or_from, le-ltb}
use Rattle.prolly_entry.specs.lemmas.Lists.{Apart, apart, tail_is}
use Rattle.prolly_entry.specs.lemmas.Spellings.{eight_bytes}
use Rattle.prolly_tree.specs.Chunk.{Chunk}
use Rattle.prolly_tree.specs.File.{frame}
use Rattle.prolly_io.specs.Frame.{framed, has_no_frame, IsSmall}

regroup : (d more : List ℕ) →
    framed d ++ more ≡ 0x43 ∷ (to_be_bytes w64 (length d) ++ (d ++ more))
regroup d more = append_assoc (0x43 ∷ to_be_bytes w64 (length d)) d more

-- A frame begins the bytes that it stands in front of.
pub begins_frame : (d more : List ℕ) → IsSmall d → has_no_frame (framed d ++ more) ≡ false
begins_frame d more small =
    let length_field = to_be_bytes w64 (length d) in
    let long = length (length_field ++ (d ++ more)) in
    let read = from_be_bytes w64 length_field in
    let is_read : read ≡ length d = from_be_bytes-to_be_bytes_8 (length d) small in
    let all : long ≡ 8 + length (d ++ more) = length-append length_field (d ++ more) in
    let rest : length (d ++ more) ≡ length d + length more = length-append d more in
    ap has_no_frame (regroup d more) ∙ or_from (nat_lt long 8) (nat_lt long (8 + read))
    (le-ltb long 8 (omega arith)) (le-ltb long (8 + read) (omega arith))

-- Bytes begin with one frame at most.
pub one_front : (c d more other : List ℕ) → IsSmall c → IsSmall d →
    framed c ++ more ≡ framed d ++ other → Apart c d more other
one_front c d more other h k e =
    let f : 0x43 ∷ (to_be_bytes w64 (length c) ++ (c ++ more)) ≡
    0x43 ∷ (to_be_bytes w64 (length d) ++ (d ++ other)) = sym (regroup c more) ∙ e ∙
    regroup d other in
    let n = apart (to_be_bytes w64 (length c)) (to_be_bytes w64 (length d)) (c ++ more) (d ++ other)
    refl
    (tail_is 0x43 0x43 (to_be_bytes w64 (length c) ++ (c ++ more))
    (to_be_bytes w64 (length d) ++ (d ++ other)) f) in
    apart c d more other (eight_bytes (length c) (length d) h k n.front) n.rest

-- The frames of chunks are those of their bytes.
pub frames_bytes : (cs : List Chunk) → flat_map frame cs ≡ flat_map framed (map (λ c. c.bytes) cs)
frames_bytes [] = refl
frames_bytes (c ∷ cs) = ap (λ x. frame c ++ x) (frames_bytes cs)
