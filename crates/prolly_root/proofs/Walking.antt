-- Going over the frames of a file.
use Rattle.std.proofs.Common.{◌≡◌, ℕ, zero, suc, ◌+◌, ◌^◌, ◌<◌, ◌≤◌, List, [], ◌∷◌, ◌++◌, length}
use Rattle.std.proofs.Common.{take, drop, get_or, inl, inr, ◌⊎◌, Result, Ok, Err, refl, sym, ap}
use Rattle.std.proofs.Common.{◌∙◌, subst, arith, append_assoc, Option, Some, None, take-append-drop}
use Rattle.std.specs.Int.{w64, from_be_bytes, to_be_bytes}
use Rattle.std.specs.List.{AllByRecursion, flat_map}
use Rattle.std.proofs.Math.Seq.{drop-cons}
use Rattle.std.proofs.lemmas.Bool.{cases_lt, eq-eqb, le-ltb, lt-ltb, ne_eqb}
use Rattle.std.proofs.lemmas.List.{drop_all, length-append}
use Rattle.std.proofs.lemmas.List.{length-take-le, take_more}
use Rattle.std.proofs.lemmas.Nat.{from_be_bytes-to_be_bytes_8}
use Rattle.std.proofs.lemmas.List.Elements.{All-from_recursion}
use Rattle.std.proofs.lemmas.List.Concat.{flat_map-append}
use Rattle.prolly_look_up.specs.Way.{level_of}
use Rattle.prolly_entry.specs.lemmas.Lists.{all_back}
use Rattle.prolly_io.specs.Frame.{framed}
use Rattle.prolly_io.specs.declared.format.frame.FrameStart.{FrameStart}
use Rattle.prolly_io.specs.declared.format.frame.FrameStart.TheVariants.{Chunk as ChunkStart, End}
use Rattle.prolly_io.specs.Device.{DeviceView}
use Rattle.prolly_root.specs.ChunkFile.{ChunkFile, HoldsChunks, IsCut, IsSome, nth_in}
use Rattle.prolly_root.specs.ChunkFile.{end_fault, fault_at_end, frames_fault}
use Rattle.prolly_root.specs.ChunkFile.{no_chunk_fault}
use Rattle.prolly_entry.specs.Overlay.{or_else}
use Rattle.std.specs.Prelude.{IfErr, IfOk}
use Rattle.prolly_root.specs.Walk.{GoesOver, IsFrame, IsStartOf, IsWalk, NoneBetween}
use Rattle.prolly_root.specs.Walk.{StartsAs, StaysSame, offset_of}
use Rattle.prolly_root.specs.RootFault.{OnlyRead}
use Rattle.prolly_root.specs.declared.root_fault.RootFault.{RootFault}
use Rattle.prolly_root.specs.declared.root_fault.RootFault.TheVariants as roots
use Rattle.prolly_root.specs.declared.file.walk.Frame.{Frame}
use Rattle.prolly_root.specs.declared.file.walk.Walk.{Walk}
use Rattle.prolly_root.proofs.FileBytes.{how_long, behind, there}
use Rattle.prolly_root.proofs.Starts.{TellsStart, starts_as}

-- ---- a device between two calls

-- the file that it held it holds still
pub holds_chunks_still : {old new : DeviceView} {file : ChunkFile} → StaysSame old new →
    HoldsChunks old file → HoldsChunks new file
holds_chunks_still same holds =
    let kept = same holds.honest in record {
      honest = kept.0;
      are = kept.1 ∙ holds.are;
      cut = holds.cut;
    }

-- two calls, of which the first one succeeds, read and do no more
pub reads_on : (old mid new : DeviceView) (tells : ℕ → Type 0) →
    StaysSame old mid × (mid.failures ≡ old.failures) →
    StaysSame mid new × tells mid.failures → StaysSame old new × tells old.failures
reads_on old mid new tells read more = (
  λ honest.
      let kept = read.0 honest in
      let later = more.0 kept.0 in
      (later.0, later.1 ∙ kept.1),
  subst tells read.1 more.1,
)

-- ---- over a frame

module _ {file : ChunkFile} (f : IsCut file) (n : ℕ) (header : 6 ≤ length file.bytes)
    (result : Result FrameStart RootFault) (tells : TellsStart n (take 10 (behind f n)) result) where
  by_what_is_left : (left : List (List ℕ)) → drop n file.chunks ≡ left → AllByRecursion IsSome left →
      IsStartOf n left file.rest result
  by_what_is_left [] e some = starts_as file.rest
      (subst (λ cs. TellsStart n (take 10 (flat_map framed cs ++ file.rest)) result) e tells)
  by_what_is_left ([] ∷ left) e some = absurd (omega (arith, some.0))
  by_what_is_left ((b ∷ c) ∷ left) e some =
      subst (IsStartOf n ((b ∷ c) ∷ left) file.rest) (sym (tells.begins (suc (length c)) b few
      (ap (λ cs. take 10 (flat_map framed cs ++ file.rest)) e))) (refl, refl)
    where
      few : suc (length c) < 2 ^ 64
      few = omega (
        arith,
        f.short,
        how_long f n header,
        ap (λ cs. length (flat_map framed cs)) e,
        length-append (framed (b ∷ c)) (flat_map framed left),
        length-append (to_be_bytes w64 (suc (length c))) (b ∷ c),
      )

  pub is_start : IsStartOf n (drop n file.chunks) file.rest result
  is_start = by_what_is_left (drop n file.chunks) refl
      (all_back IsSome (take n file.chunks) (drop n file.chunks)
      (subst (AllByRecursion IsSome) (sym (take-append-drop n file.chunks)) f.some))

-- the chunk of a number, where one begins there
starts_chunk : (cs : List (List ℕ)) (n len level : ℕ) (rest : List ℕ) (some : n < length cs) →
    IsStartOf n (drop n cs) rest (Ok (ChunkStart len level)) →
    (len ≡ length (get_or cs n [])) × (level ≡ level_of (get_or cs n []))
starts_chunk cs n len level rest some is = subst
    (λ left. IsStartOf n left rest (Ok (ChunkStart len level)) →
    (len ≡ length (get_or cs n [])) × (level ≡ level_of (get_or cs n [])))
    (sym (drop-cons cs n [] some)) (λ is. is) is

-- one more frame
framed_length : (c : List ℕ) → length (framed c) ≡ 9 + length c
framed_length c = omega (arith, length-append (to_be_bytes w64 (length c)) c)

frames_next : (cs : List (List ℕ)) (n : ℕ) → n < length cs →
    length (flat_map framed (take (n + 1) cs)) ≡
    length (flat_map framed (take n cs)) + 9 + length (get_or cs n [])
frames_next cs n within =
    let c = get_or cs n [] in
    let more = ap (flat_map framed) (take_more cs n [] within) ∙
    flat_map-append framed (take n cs) (c ∷ []) in omega (
      arith,
      ap length more,
      length-append (flat_map framed (take n cs)) (framed c ++ []),
      length-append (framed c) [],
      framed_length c,
    )

-- as many bytes as chunks, or more
frames_long : (cs : List (List ℕ)) (n : ℕ) → n ≤ length cs →
    n ≤ length (flat_map framed (take n cs))
frames_long cs zero within = omega arith
frames_long [] (suc n) within = absurd (omega (arith, within))
frames_long (c ∷ cs) (suc n) within = omega (
  arith,
  length-append (framed c) (flat_map framed (take n cs)),
  framed_length c,
  frames_long cs n (omega (arith, within)),
)

-- what go_over tells of a frame of this length
pub record GoesOn (walk new : Walk) (len level : ℕ) (frame : Frame) : Type 0 where
  pub size : new.size ≡ walk.size
  pub offset : new.offset ≡ walk.offset + 9 + len
  pub number : walk.number + 1 < 2 ^ 64 → new.number ≡ walk.number + 1
  pub fits : (0 < len) × (walk.offset + 9 + len ≤ walk.size)
  pub frame_is : (frame.number ≡ walk.number) × (frame.start ≡ walk.offset + 9) ×
      (frame.len ≡ len) × (frame.level ≡ level)

-- or why it does not
abbrev pub IsFrameFault : Walk → ℕ → RootFault → Type 0
IsFrameFault walk len fault = ((fault ≡ roots.Chunk walk.number) × (len ≡ 0)) ⊎
    ((fault ≡ roots.Truncated) × (0 < len) × (walk.size < walk.offset + 9 + len))

module _ {file : ChunkFile} (f : IsCut file) {walk : Walk} (at : IsWalk file walk) where
  abbrev left : List (List ℕ)
  left = drop walk.number file.chunks

  abbrev Starts : Result FrameStart RootFault → Type 0
  Starts result = IsStartOf walk.number left file.rest result

  -- either a chunk is next, or none is left
  by_number : (P : Type 0) → (walk.number < length file.chunks → P) →
      (walk.number ≡ length file.chunks → left ≡ [] → P) → P
  by_number P more none = by_order (cases_lt walk.number (length file.chunks))
    where
      by_order : (walk.number < length file.chunks) ⊎ (length file.chunks ≤ walk.number) → P
      by_order (inl less) = more less
      by_order (inr all) = none (omega (arith, all, at.within)) (drop_all walk.number file.chunks all)

  -- what is told of the bytes there is told of the chunk
  pub begins_there : {result : Result FrameStart RootFault} →
      TellsStart walk.number (take 10 (drop walk.offset file.bytes)) result → Starts result
  begins_there {result = result} tells = is_start f walk.number at.header result
      (subst (λ bytes. TellsStart walk.number (take 10 bytes) result)
      (there f walk.number at.header at.offset) tells)

  -- how much is left
  left_long : left ≡ [] → walk.size ≡ walk.offset + length file.rest
  left_long none = omega (
    arith,
    how_long f walk.number at.header,
    ap (λ cs. length (flat_map framed cs)) none,
    at.offset,
    at.whole,
  )

  -- no start is told behind the last chunk but the end, and no end before it
  pub fault_there : {fault : RootFault} → Starts (Err fault) →
      GoesOver file walk.number walk (Err fault)
  fault_there {fault = fault} is = by_number (GoesOver file walk.number walk (Err fault))
      (λ some. inl (subst (λ left. IsStartOf walk.number left file.rest (Err fault) → OnlyRead fault)
      (sym (drop-cons file.chunks walk.number [] some)) (λ only. only) is))
      (λ end none. told end (subst (λ left. IsStartOf walk.number left file.rest (Err fault)) none is))
    where
      told : walk.number ≡ length file.chunks → StartsAs walk.number file.rest (Err fault) →
          GoesOver file walk.number walk (Err fault)
      told end (inl only) = inl only
      told end (inr is) = inr (end, ap (λ n. end_fault n file.rest) (sym end) ∙ is)

  -- the end record, which ends where the file does, or does not
  module _ (is : Starts (Ok End)) where
    ends : (walk.number ≡ length file.chunks) × StartsAs walk.number file.rest (Ok End)
    ends = by_number ((walk.number ≡ length file.chunks) × StartsAs walk.number file.rest (Ok End))
        (λ some. absurd (subst (λ left. IsStartOf walk.number left file.rest (Ok End) → ⊥)
        (sym (drop-cons file.chunks walk.number [] some)) (λ is. is) is))
        (λ end none. (end, subst (λ left. IsStartOf walk.number left file.rest (Ok End)) none is))

    long : walk.size ≡ walk.offset + suc (length ends.1.0)
    long = omega (
      arith,
      left_long (drop_all walk.number file.chunks (omega (arith, ends.0))),
      ap length ends.1.1,
    )

    ends_there : walk.offset + 29 ≡ walk.size → GoesOver file walk.number walk (Ok None)
    ends_there size = (
      ends.0,
      rw (
        ends.1.1,
        le-ltb (length ends.1.0) 28 (omega (arith, size, long)),
        le-ltb 28 (length ends.1.0) (omega (arith, size, long)),
      ) refl,
    )

    no_end_there : {fault : RootFault} →
        ((fault ≡ roots.Truncated) × (walk.size < walk.offset + 29)) ⊎
        ((fault ≡ roots.Trailing) × (walk.offset + 29 < walk.size)) →
        GoesOver file walk.number walk (Err fault)
    no_end_there (inl short) = inr (
      ends.0,
      rw (
        ends.1.1,
        lt-ltb (length ends.1.0) 28 (omega (arith, short.1, long)),
      ) (ap Some (sym short.0)),
    )
    no_end_there (inr more) = inr (
      ends.0,
      rw (
        ends.1.1,
        le-ltb (length ends.1.0) 28 (omega (arith, more.1, long)),
        lt-ltb 28 (length ends.1.0) (omega (arith, more.1, long)),
      ) (ap Some (sym more.0)),
    )

    pub ends_so : (result : Result (Option Frame) RootFault) →
        IfOk result (λ next. (next ≡ None) × (walk.offset + 29 ≡ walk.size)) →
        IfErr result (λ fault. ((fault ≡ roots.Truncated) × (walk.size < walk.offset + 29)) ⊎
        ((fault ≡ roots.Trailing) × (walk.offset + 29 < walk.size))) →
        GoesOver file walk.number walk result
    ends_so (Ok next) ok err = rw ok.0 (ends_there ok.1)
    ends_so (Err fault) ok err = no_end_there err

  -- a frame
  module _ (len level : ℕ) (is : Starts (Ok (ChunkStart len level))) where
    -- of the chunk that is next
    pub goes_over : {new : Walk} {frame : Frame} → GoesOn walk new len level frame →
        GoesOver file walk.number new (Ok (Some frame))
    goes_over {new = new} {frame = frame} on = by_number
        (GoesOver file walk.number new (Ok (Some frame))) over (λ end none. absurd (no_frame
        (subst (λ left. IsStartOf walk.number left file.rest (Ok (ChunkStart len level))) none is)
        (left_long none)))
      where
        -- none begins what is left behind the last one
        no_frame : StartsAs walk.number file.rest (Ok (ChunkStart len level)) →
            walk.size ≡ walk.offset + length file.rest → ⊥
        no_frame start size =
            let bytes = level ∷ start.0 in
            let chunk = take len bytes in
            let long : length file.rest ≡ 9 + length bytes =
            ap length start.2 ∙ length-append (0x43 ∷ to_be_bytes w64 len) bytes in
            let same : length chunk ≡ len =
            length-take-le len bytes (omega (arith, on.fits.1, size, long)) in
            f.last chunk (drop len bytes) (omega (arith, same, on.fits.0))
            (subst (λ n. n < 2 ^ 64) (sym same) start.1)
            (start.2 ∙ ap (λ x. (0x43 ∷ to_be_bytes w64 len) ++ x)
            (sym (take-append-drop len bytes)) ∙ sym (append_assoc (0x43 ∷ to_be_bytes w64 len) chunk
            (drop len bytes)) ∙ ap (λ n. ((0x43 ∷ to_be_bytes w64 n) ++ chunk) ++ drop len bytes)
            (sym same))

        over : walk.number < length file.chunks → GoesOver file walk.number new (Ok (Some frame))
        over some =
            let here = starts_chunk file.chunks walk.number len level file.rest some is in
            let fits : walk.number + 1 < 2 ^ 64 = omega (
              arith,
              f.short,
              how_long f walk.number at.header,
              frames_long file.chunks walk.number at.within,
              some,
            ) in
            let number = on.number fits in
            let same = on.frame_is.0 in (
              record {
                within = omega (arith, some, same);
                start = on.frame_is.1 ∙
                    ap (λ n. n + 9) (at.offset ∙ ap (offset_of file) (sym same));
                len = on.frame_is.2 ∙ here.0 ∙ ap (λ n. length (nth_in file n)) (sym same);
                level = on.frame_is.3 ∙ here.1 ∙ ap (λ n. level_of (nth_in file n)) (sym same);
              },
              same,
              record {
                within = omega (arith, some, number);
                offset = omega (
                  arith,
                  on.offset,
                  at.offset,
                  here.0,
                  frames_next file.chunks walk.number some,
                  ap (offset_of file) number,
                );
                whole = on.size ∙ at.whole;
                header = at.header;
              },
              number,
            )

    -- or it is cut off, or its chunk has no byte
    pub no_frame_there : {fault : RootFault} → IsFrameFault walk len fault →
        GoesOver file walk.number walk (Err fault)
    no_frame_there {fault = fault} why = by_number (GoesOver file walk.number walk (Err fault))
        (λ some. absurd (fits some why))
        (λ end none. inr (
          end,
          told end (subst
              (λ left. IsStartOf walk.number left file.rest (Ok (ChunkStart len level))) none is) why,
        ))
      where
        fits : walk.number < length file.chunks → IsFrameFault walk len fault → ⊥
        fits some why =
            let here = starts_chunk file.chunks walk.number len level file.rest some is in
            let chunk = All-from_recursion IsSome file.chunks f.some walk.number [] some in
            let size = how_long f (walk.number + 1) at.header in
            let next = frames_next file.chunks walk.number some in
            elim why [
              | inl none ↦ omega (arith, none.1, here.0, chunk)
              | inr short ↦ omega (arith, short.2, here.0, size, next, at.offset, at.whole)
            ]

        told : walk.number ≡ length file.chunks →
            StartsAs walk.number file.rest (Ok (ChunkStart len level)) →
            IsFrameFault walk len fault → fault_at_end file ≡ Some fault
        told end start why =
            let long : length (to_be_bytes w64 len ++ level ∷ start.0) ≡ 9 + length start.0 =
            omega (arith, length-append (to_be_bytes w64 len) (level ∷ start.0)) in
            let read : from_be_bytes w64 (take 8 (to_be_bytes w64 len ++ level ∷ start.0)) ≡ len =
            from_be_bytes-to_be_bytes_8 len start.1 in
            rw (
              start.2,
              lt-ltb 8 (length (to_be_bytes w64 len ++ level ∷ start.0))
                  (omega (arith, long)),
              read,
            ) (elim why [
              | inl none ↦ rw (eq-eqb len 0 none.1) (ap Some (ap roots.Chunk (sym end) ∙ sym none.0))
              | inr short ↦ rw (ne_eqb len 0 (λ e. omega (arith, e, short.1))) (ap Some (sym short.0))
            ])

-- ---- to the last frame

-- the walk has come from the first frame to behind this one, if it went over any
abbrev pub CameTo : ChunkFile → ℕ → Option Frame → Type 0
CameTo file number None = number ≡ 0
CameTo file number (Some frame) = IsFrame file frame × (number ≡ frame.number + 1)

-- where it went over none, that is what is wrong
pub no_chunk : (file : ChunkFile) → 0 ≡ length file.chunks → fault_at_end file ≡ None →
    frames_fault file ≡ Some roots.Missing
no_chunk file none ends = by_chunks file.chunks none
  where
    by_chunks : (cs : List (List ℕ)) → 0 ≡ length cs →
        or_else (fault_at_end file) (no_chunk_fault cs) ≡ Some roots.Missing
    by_chunks [] none = rw ends refl
    by_chunks (c ∷ cs) none = absurd (omega (arith, none))

pub end_told : (file : ChunkFile) {fault : RootFault} → fault_at_end file ≡ Some fault →
    frames_fault file ≡ Some fault
end_told file is = rw is refl

-- ---- to a level

-- no chunk before the next one is of the level, nor is that one
pub none_more : (file : ChunkFile) (level from number : ℕ) →
    NoneBetween file level from number →
    (level_of (nth_in file number) ≡ level → ⊥) →
    NoneBetween file level from (number + 1)
none_more file level from number none other n above below same =
    by_order (cases_lt n number)
  where
    by_order : (n < number) ⊎ (number ≤ n) → ⊥
    by_order (inl before) = none n above before same
    by_order (inr behind) =
        let e : n ≡ number = omega (arith, behind, below) in
        other (subst (λ n. level_of (nth_in file n) ≡ level) e same)
