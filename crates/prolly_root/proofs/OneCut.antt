-- That any bytes are cut into frames in one way.
use Rattle.std.proofs.Common.{◌≡◌, ◌⊎◌, ◌∙◌, ℕ, zero, suc, ◌+◌, ◌^◌, ◌<◌, ◌≤◌, List, [], ◌∷◌, ◌++◌}
use Rattle.std.proofs.Common.{length, drop, take, get_or, inl, inr, refl, sym, ap, subst, arith}
use Rattle.std.proofs.Common.{append_assoc}
use Rattle.std.specs.Int.{w64, from_be_bytes, to_be_bytes}
use Rattle.std.specs.List.{AllByRecursion, flat_map}
use Rattle.std.specs.Prelude.{All}
use Rattle.std.proofs.lemmas.Bool.{cases_eq, cases_lt}
use Rattle.std.proofs.lemmas.List.{get_or-drop, length-append, length-drop, length-take-le}
use Rattle.std.proofs.lemmas.List.{take-append-drop}
use Rattle.std.proofs.lemmas.Nat.{be_bytes_8, from_be_bytes-to_be_bytes_8}
use Rattle.prolly_entry.specs.Byte.{IsByte}
use Rattle.prolly_io.specs.Frame.{framed, IsSmall}
use Rattle.prolly_io.specs.FrameLaws.{one_front}
use Rattle.prolly_root.specs.ChunkFile.{BeginsNoFrame, ChunkFile, IsCut, IsSome}
use Rattle.prolly_root.proofs.Starts.{IsBytes, all_bytes, bytes_taken, few_in_eight}

-- ---- in one way

-- the frames of one list are those of the other, and so is what stands behind them
pub record Same (cs ds : List (List ℕ)) (rest other : List ℕ) : Type 0 where
  pub chunks : cs ≡ ds
  pub rests : rest ≡ other

small_front : (c more : List ℕ) (bytes : List ℕ) → bytes ≡ framed c ++ more →
    length bytes < 2 ^ 64 → IsSmall c
small_front c more bytes is few = omega (
  arith,
  few,
  ap length is,
  length-append (framed c) more,
  length-append (to_be_bytes w64 (length c)) c,
)

same_frames : (cs ds : List (List ℕ)) (rest other bytes : List ℕ) → length bytes < 2 ^ 64 →
    AllByRecursion IsSome cs → AllByRecursion IsSome ds → BeginsNoFrame rest → BeginsNoFrame other →
    bytes ≡ flat_map framed cs ++ rest → bytes ≡ flat_map framed ds ++ other → Same cs ds rest other
same_frames [] [] rest other bytes few some any last end is there =
    record { chunks = refl; rests = sym is ∙ there }
same_frames [] (d ∷ ds) rest other bytes few some any last end is there =
    let front : bytes ≡ framed d ++ (flat_map framed ds ++ other) =
    there ∙ append_assoc (framed d) (flat_map framed ds) other in
    absurd (last d (flat_map framed ds ++ other) any.0
    (small_front d (flat_map framed ds ++ other) bytes front few) (sym is ∙ front))
same_frames (c ∷ cs) [] rest other bytes few some any last end is there =
    let front : bytes ≡ framed c ++ (flat_map framed cs ++ rest) =
    is ∙ append_assoc (framed c) (flat_map framed cs) rest in
    absurd (end c (flat_map framed cs ++ rest) some.0
    (small_front c (flat_map framed cs ++ rest) bytes front few) (sym there ∙ front))
same_frames (c ∷ cs) (d ∷ ds) rest other bytes few some any last end is there =
    let here : bytes ≡ framed c ++ (flat_map framed cs ++ rest) =
    is ∙ append_assoc (framed c) (flat_map framed cs) rest in
    let next : bytes ≡ framed d ++ (flat_map framed ds ++ other) =
    there ∙ append_assoc (framed d) (flat_map framed ds) other in
    let one = one_front c d (flat_map framed cs ++ rest) (flat_map framed ds ++ other)
    (small_front c (flat_map framed cs ++ rest) bytes here few)
    (small_front d (flat_map framed ds ++ other) bytes next few) (sym here ∙ next) in
    let left : length (flat_map framed cs ++ rest) < 2 ^ 64 = omega (
      arith,
      few,
      ap length here,
      length-append (framed c) (flat_map framed cs ++ rest),
    ) in
    let more = same_frames cs ds rest other (flat_map framed cs ++ rest) left some.1 any.1 last end
    refl one.rest in
    record { chunks = cc; rests = more.rests }

pub one_cut : (file other : ChunkFile) → IsCut file → IsCut other → file.bytes ≡ other.bytes →
    file ≡ other
one_cut file other f g same =
    let few : length (drop 6 file.bytes) < 2 ^ 64 =
    omega (arith, f.short, length-drop 6 file.bytes) in
    let rests = same_frames file.chunks other.chunks file.rest other.rest (drop 6 file.bytes) few
    f.some g.some f.last g.last f.is (ap (drop 6) same ∙ g.is) in
    same_file file other same rests.chunks rests.rests
  where
    same_file : (file other : ChunkFile) → file.bytes ≡ other.bytes → file.chunks ≡ other.chunks →
        file.rest ≡ other.rest → file ≡ other
    same_file file other bytes chunks rest =
        ap (λ b. cut_as b file.chunks file.rest) bytes ∙
        ap (λ cs. cut_as other.bytes cs file.rest) chunks ∙
        ap (λ rest. cut_as other.bytes other.chunks rest) rest
      where
        cut_as : List ℕ → List (List ℕ) → List ℕ → ChunkFile
        cut_as bytes chunks rest = record { bytes = bytes; chunks = chunks; rest = rest }

-- ---- in some way

-- a frame of a chunk that has a byte begins the bytes, or none does
pub record Front (bytes : List ℕ) : Type 0 where
  pub chunk : List ℕ
  pub more : List ℕ
  pub some : IsSome chunk
  pub small : IsSmall chunk
  pub is : bytes ≡ framed chunk ++ more

-- the bytes behind the letter of a frame are its length, its chunk and more
begun : (chunk more bytes : List ℕ) (b : ℕ) → b ∷ bytes ≡ framed chunk ++ more →
    (b ≡ 0x43) × (bytes ≡ to_be_bytes w64 (length chunk) ++ (chunk ++ more))
begun chunk more bytes b is =
    let front = is ∙ append_assoc (0x43 ∷ to_be_bytes w64 (length chunk)) chunk more in
    (ap (λ bytes. get_or bytes 0 0) front, ap (drop 1) front)

front_of : (bytes : List ℕ) → IsBytes bytes → length bytes < 2 ^ 64 →
    Front bytes ⊎ BeginsNoFrame bytes
front_of [] are few = inr (λ chunk more some small is. cc)
front_of (b ∷ bytes) are few = by_letter (cases_eq b 0x43)
  where
    len : ℕ
    len = from_be_bytes w64 (take 8 bytes)

    long_enough : (chunk more : List ℕ) → b ∷ bytes ≡ framed chunk ++ more →
        8 + (length chunk + length more) ≡ length bytes
    long_enough chunk more is = omega (
      arith,
      ap length (begun chunk more bytes b is).1,
      length-append (to_be_bytes w64 (length chunk)) (chunk ++ more),
      length-append chunk more,
    )

    len_is : (chunk more : List ℕ) → IsSmall chunk → b ∷ bytes ≡ framed chunk ++ more →
        len ≡ length chunk
    len_is chunk more small is = ap (λ bytes. from_be_bytes w64 (take 8 bytes))
        (begun chunk more bytes b is).1 ∙ from_be_bytes-to_be_bytes_8 (length chunk) small

    here : b ≡ 0x43 → 0 < len → 8 + len ≤ length bytes → Front (b ∷ bytes)
    here letter some room =
        let chunk = take len (drop 8 bytes) in
        let long : length chunk ≡ len =
        length-take-le len (drop 8 bytes) (omega (arith, room, length-drop 8 bytes)) in
        let eight : to_be_bytes w64 len ≡ take 8 bytes =
        be_bytes_8 (take 8 bytes) len (length-take-le 8 bytes (omega (arith, room)))
        (bytes_taken 8 bytes (λ i. are (suc i))) refl in
        record {
          chunk = chunk;
          more = drop len (drop 8 bytes);
          some = omega (arith, long, some);
          small = subst (λ n. n < 2 ^ 64) (sym long)
              (few_in_eight (take 8 bytes) (bytes_taken 8 bytes (λ i. are (suc i))));
          is = ap (λ b. b ∷ bytes) letter ∙ ap (λ bytes. 0x43 ∷ bytes)
              (sym (take-append-drop 8 bytes) ∙ ap (λ front. front ++ drop 8 bytes)
              (sym (ap (to_be_bytes w64) long ∙ eight)) ∙
              ap (λ rest. to_be_bytes w64 (length chunk) ++ rest)
              (sym (take-append-drop len (drop 8 bytes)))) ∙
              sym (append_assoc (0x43 ∷ to_be_bytes w64 (length chunk)) chunk
              (drop len (drop 8 bytes)));
        }

    by_room : b ≡ 0x43 → 0 < len → (length bytes < 8 + len) ⊎ (8 + len ≤ length bytes) →
        Front (b ∷ bytes) ⊎ BeginsNoFrame (b ∷ bytes)
    by_room letter some (inr room) = inl (here letter some room)
    by_room letter some (inl short) = inr (λ chunk more any small is.
        absurd (omega (arith, short, long_enough chunk more is, len_is chunk more small is)))

    by_len : b ≡ 0x43 → (0 < len) ⊎ (len ≤ 0) → Front (b ∷ bytes) ⊎ BeginsNoFrame (b ∷ bytes)
    by_len letter (inl some) = by_room letter some (cases_lt (length bytes) (8 + len))
    by_len letter (inr none) = inr (λ chunk more any small is.
        absurd (omega (arith, none, any, len_is chunk more small is)))

    by_letter : (b ≡ 0x43) ⊎ (b ≡ 0x43 → ⊥) → Front (b ∷ bytes) ⊎ BeginsNoFrame (b ∷ bytes)
    by_letter (inl letter) = by_len letter (cases_lt 0 len)
    by_letter (inr other) =
        inr (λ chunk more any small is. other (begun chunk more bytes b is).0)

-- the frames that stand one behind another
pub record AreCut (bytes : List ℕ) : Type 0 where
  pub chunks : List (List ℕ)
  pub rest : List ℕ
  pub is : bytes ≡ flat_map framed chunks ++ rest
  pub some : AllByRecursion IsSome chunks
  pub last : BeginsNoFrame rest

bytes_behind : (front more : List ℕ) → IsBytes (front ++ more) → IsBytes more
bytes_behind [] more are = are
bytes_behind (b ∷ front) more are = bytes_behind front more (λ i. are (suc i))

cut_up_to : (fuel : ℕ) (bytes : List ℕ) → length bytes ≤ fuel → IsBytes bytes →
    length bytes < 2 ^ 64 → AreCut bytes
cut_up_to zero bytes within are few = record {
  chunks = [];
  rest = bytes;
  is = refl;
  some = tt;
  last = λ chunk more some small is. absurd (omega (
    arith,
    within,
    ap length is,
    length-append (framed chunk) more,
  ));
}
cut_up_to (suc fuel) bytes within are few = by_front (front_of bytes are few)
    (λ more short. cut_up_to fuel more (omega (arith, within, short)))
  where
    by_front : Front bytes ⊎ BeginsNoFrame bytes → ((more : List ℕ) →
        suc (length more) ≤ length bytes → IsBytes more → length more < 2 ^ 64 → AreCut more) →
        AreCut bytes
    by_front (inr none) cut = record {
      chunks = [];
      rest = bytes;
      is = refl;
      some = tt;
      last = none;
    }
    by_front (inl f) cut =
        let long = ap length f.is ∙ length-append (framed f.chunk) f.more in
        let more = cut f.more (omega (arith, long))
        (bytes_behind (framed f.chunk) f.more (subst IsBytes f.is are)) (omega (arith, few, long)) in
        record {
          chunks = f.chunk ∷ more.chunks;
          rest = more.rest;
          is = f.is ∙ ap (λ bytes. framed f.chunk ++ bytes) more.is ∙
              sym (append_assoc (framed f.chunk) (flat_map framed more.chunks) more.rest);
          some = (f.some, more.some);
          last = more.last;
        }

bytes_from : (n : ℕ) (bytes : List ℕ) → IsBytes bytes → IsBytes (drop n bytes)
bytes_from n bytes are i = subst (λ b. b < 256) (sym (get_or-drop n bytes i 0)) (are (n + i))

pub some_cut : (bytes : List ℕ) → All IsByte bytes → length bytes < 2 ^ 64 →
    (file : ChunkFile) × (file.bytes ≡ bytes) × IsCut file
some_cut bytes all few =
    let left = drop 6 bytes in
    let short : length left < 2 ^ 64 = omega (arith, few, length-drop 6 bytes) in
    let cut = cut_up_to (length left) left (omega arith) (bytes_from 6 bytes (all_bytes bytes all))
    short in (
      record { bytes = bytes; chunks = cut.chunks; rest = cut.rest },
      refl,
      record { is = cut.is; some = cut.some; last = cut.last; short = few },
    )
