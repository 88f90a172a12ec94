-- The chunks of a file that were read so far, one after another.
use Rattle.std.proofs.Common.{◌≡◌, ◌⊎◌, ℕ, suc, ◌+◌, ◌-◌, ◌<◌, ◌≤◌, ◌^◌, Bool, true}
use Rattle.std.proofs.Common.{false, List, [], ◌∷◌, ◌++◌, length, map, take, drop, get_or, Option}
use Rattle.std.proofs.Common.{Some, None, inl, inr, refl, sym, ap, ◌∙◌, subst, arith, cond, nat_lt}
use Rattle.std.proofs.Common.{if◌then◌else◌, append_assoc, append-nil, Result, Ok, Err, ◌==◌}
use Rattle.std.specs.Int.{w64, to_be_bytes}
use Rattle.std.specs.List.{flat_map, AllByRecursion}
use Rattle.std.specs.Option.{option_map}
use Rattle.std.specs.Str.{bytes_eq}
use Rattle.std.specs.declared.ops.Range.{Range}
use Rattle.std.proofs.Math.Seq.{drop-cons}
use Rattle.std.proofs.lemmas.Bool.{cond-true, false_from_ne_true, le-ltb, lt-ltb, ne_eqb}
use Rattle.std.proofs.lemmas.List.{length-append, length-drop, length-map, take_all}
use Rattle.std.proofs.lemmas.List.{take-append-drop, take-append-le, take-map, take_more}
use Rattle.std.proofs.lemmas.List.Concat.{flat_map-append}
use Rattle.std.proofs.lemmas.Slice.Eq.{bytes_eq-Decides}
use Rattle.prolly_entry.specs.Cut.{sha512_cut}
use Rattle.prolly_entry.specs.Pair.{Pair}
use Rattle.prolly_entry.specs.Position.{Position}
use Rattle.prolly_entry.specs.Prefix.{IsPrefix}
use Rattle.prolly_entry.specs.Reference.{reference_of}
use Rattle.prolly_entry.specs.declared.version.Version.{Version}
use Rattle.prolly_entry.specs.declared.reference.Ref.{Ref}
use Rattle.prolly_entry.specs.lemmas.Lists.{all_append, all_back, all_front}
use Rattle.prolly_tree.specs.Chunk.{chunks as tree_chunks}
use Rattle.prolly_tree.specs.File.{root_reference}
use Rattle.prolly_tree.specs.lemmas.Splits.{flat}
use Rattle.prolly_io.specs.Frame.{framed, has_no_frame, IsSmall}
use Rattle.prolly_check.specs.ChunksRead.{AreRead, BodyRead, EndsAs, EndsChunks, HasFlaw, IsDecided}
use Rattle.prolly_check.specs.Digests.{IsBroken}
use Rattle.prolly_look_up.specs.Entries.{AreWhole, IsWhole}
use Rattle.prolly_look_up.specs.Content.{chunk_bytes}
use Rattle.prolly_check.specs.FirstFault.{difference, ending_for, last_behind}
use Rattle.prolly_check.specs.FirstFault.{order_fault, rises_behind}
use Rattle.prolly_check.specs.FirstFlaw.{IsBodyFault, IsBodyVerdict, IsFlawBehind, IsReadTo}
use Rattle.prolly_check.specs.FirstFlaw.{MayBegin, end_flaw, flaw_at_end}
use Rattle.prolly_check.specs.Follower.{all_of, Follows, FollowsIn, IsAlike, IsOutOfPlace}
use Rattle.prolly_check.specs.Follower.{IsTooShort, sent_of_leaves}
use Rattle.prolly_check.specs.Frames.{chunk_in, chunks_in, FramesTo}
use Rattle.prolly_look_up.specs.HeldPairs.{bytes_in, pairs_held}
use Rattle.prolly_check.specs.Incoming.{IsFilled}
use Rattle.prolly_check.specs.Verdict.{UnlessMemory}
use Rattle.prolly_check.specs.declared.stream.chunks_read.ChunksRead.{ChunksRead}
use Rattle.prolly_check.specs.declared.verdict.follower.Follower.{Follower}
use Rattle.prolly_check.specs.declared.verdict.fault.CheckFault.{CheckFault}
use Rattle.prolly_check.specs.declared.verdict.fault.CheckFault.TheVariants.{BadChunk, BadEnd}
use Rattle.prolly_check.specs.declared.verdict.fault.CheckFault.TheVariants.{KeysOutOfOrder}
use Rattle.prolly_check.specs.declared.verdict.fault.CheckFault.TheVariants.{NotCanonical, Trailing}
use Rattle.prolly_check.specs.declared.verdict.fault.CheckFault.TheVariants.{Truncated}
use Rattle.prolly_check.proofs.CheckedFile.{chunks_last, chunks_some}
use Rattle.prolly_check.specs.lemmas.Sizes.{few_in_frames}
use Rattle.prolly_check.proofs.FollowerSteps.{held_in, held_snoc, parts_difference}
use Rattle.prolly_look_up.specs.lemmas.HeldPairs.{bytes_append}
use Rattle.prolly_check.proofs.NextLeaf.{sent_begins}
use Rattle.prolly_check.proofs.OpenLevels.{all_sent}
use Rattle.prolly_check.proofs.RisingKeys.{last_append}
use Rattle.prolly_check.proofs.Verdicts.{difference_same, ending_long}

-- ---- the order of the keys

-- the keys of one chunk more
pub order_snoc : (last : Position) (number : ℕ) (chunks : List (List ℕ)) (chunk : List ℕ) →
    order_fault last number (map pairs_held chunks) ≡ None →
    order_fault last number (map pairs_held (chunks ++ chunk ∷ [])) ≡
    (if rises_behind (last_behind last (held_in chunks)) (pairs_held chunk) then None else
    Some (KeysOutOfOrder (number + length chunks)))
order_snoc last number [] chunk h = rw (let e : number + 0 ≡ number = omega arith in e) refl
order_snoc last number (c ∷ chunks) chunk h =
    go (rises_behind last (pairs_held c)) refl h
    (order_snoc (last_behind last (pairs_held c)) (suc number) chunks chunk)
  where
    go : (first : Bool) → rises_behind last (pairs_held c) ≡ first →
        cond first (order_fault (last_behind last (pairs_held c)) (suc number)
        (map pairs_held chunks)) (Some (KeysOutOfOrder number)) ≡ None →
        (order_fault (last_behind last (pairs_held c)) (suc number) (map pairs_held chunks) ≡ None →
        order_fault (last_behind last (pairs_held c)) (suc number)
        (map pairs_held (chunks ++ chunk ∷ [])) ≡
        (if rises_behind (last_behind (last_behind last (pairs_held c)) (held_in chunks))
        (pairs_held chunk) then None else Some (KeysOutOfOrder (suc number + length chunks)))) →
        cond first (order_fault (last_behind last (pairs_held c)) (suc number)
        (map pairs_held (chunks ++ chunk ∷ []))) (Some (KeysOutOfOrder number)) ≡
        (if rises_behind (last_behind last (held_in (c ∷ chunks))) (pairs_held chunk) then None else
        Some (KeysOutOfOrder (number + length (c ∷ chunks))))
    go false e n more = cc n
    go true e n more = more n ∙
        ap (λ l. if rises_behind l (pairs_held chunk) then None else
        Some (KeysOutOfOrder (suc number + length chunks)))
        (sym (last_append last (pairs_held c) (held_in chunks))) ∙
        ap (λ k. if rises_behind (last_behind last (held_in (c ∷ chunks))) (pairs_held chunk) then
        None else Some (KeysOutOfOrder k)) (let e : suc number + length chunks ≡
        number + suc (length chunks) = omega arith in e)

-- ---- one chunk more

whole_snoc : (version : Version) (chunks : List (List ℕ)) (chunk : List ℕ) →
    AreWhole version chunks → IsWhole version chunk → AreWhole version (chunks ++ chunk ∷ [])
whole_snoc version chunks chunk h w = all_append (IsWhole version) chunks (chunk ∷ []) h (w, tt)

-- what is out of its place is a flaw
pub flaw_of_place : (bits : ℕ) (version : Version) (chunks : List (List ℕ)) (chunk : List ℕ)
    (later : ℕ) (fault : CheckFault) → IsWhole version chunk →
    order_fault None 0 (map pairs_held (chunks ++ chunk ∷ [])) ≡ None →
    length (held_in (chunks ++ chunk ∷ [])) < 2 ^ 64 →
    IsOutOfPlace bits version (chunks ++ chunk ∷ []) later fault →
    IsFlawBehind version bits chunks chunk fault
flaw_of_place bits version chunks chunk later fault w rises few o =
    let same : (m : List Pair) → length m < 2 ^ 64 →
    bytes_in (all_of bits version m) ≡ chunk_bytes version bits m =
    λ m short. ap bytes_in (all_sent bits version m short) in
    let read = chunks ++ chunk ∷ [] in
    let within = o.parts.within in
    subst (IsFlawBehind version bits chunks chunk) (sym o.is) (
      w,
      rises,
      omega (arith, length-append chunks (chunk ∷ [])),
      ap (λ cs. difference 0 cs read) (sym (same (held_in read) few)) ∙
          parts_difference (bytes_in (all_of bits version (held_in read))) read o.number o.parts,
      λ m short lawful p. o.none m lawful (subst (IsPrefix read) (sym (same m short)) p),
    )

-- ---- the end

-- a file that goes on differs behind the chunks
short_difference : (number : ℕ) (read : List (List ℕ)) (next : List ℕ) (more : List (List ℕ)) →
    difference number (read ++ next ∷ more) read ≡ Some (NotCanonical (number + length read))
short_difference number [] next more = ap (λ n. Some (NotCanonical n)) (let e : number ≡ number + 0 =
    omega arith in e)
short_difference number (c ∷ read) next more =
    cond-true (bytes_eq c c) (difference (suc number) (read ++ next ∷ more) read)
    (Some (NotCanonical number)) ((bytes_eq-Decides c c).1 refl) ∙
    short_difference (suc number) read next more ∙
    ap (λ n. Some (NotCanonical n)) (let e : suc number + length read ≡ number + suc (length read) =
    omega arith in e)

-- whether the chunks are all is what their difference says
pub ends_as_difference : (bits : ℕ) (version : Version) (chunks : List (List ℕ))
    (fault : CheckFault) → length (held_in chunks) < 2 ^ 64 →
    IsTooShort bits version chunks fault →
    difference 0 (chunk_bytes version bits (held_in chunks)) chunks ≡ Some fault
ends_as_difference bits version chunks fault few short =
    ap (λ cs. difference 0 cs chunks) (sym (ap bytes_in (all_sent bits version (held_in chunks) few)) ∙
    short.are) ∙ short_difference 0 chunks short.next short.more ∙
    ap (λ n. Some (NotCanonical n)) (let e : 0 + length chunks ≡ length chunks = omega arith in e) ∙
    ap Some (sym short.is)

module _ (bits : ℕ) (version : Version) (chunks : List (List ℕ))
    (few : length (held_in chunks) < 2 ^ 64)
    (all : bytes_in (all_of bits version (held_in chunks)) ≡ chunks) where
  pub are_all : chunk_bytes version bits (held_in chunks) ≡ chunks
  are_all = sym (ap bytes_in (all_sent bits version (held_in chunks) few)) ∙ all

  pub none_differs : difference 0 (chunk_bytes version bits (held_in chunks)) chunks ≡ None
  none_differs = ap (λ cs. difference 0 cs chunks) are_all ∙ difference_same 0 chunks

  some_chunks : 0 < length chunks
  some_chunks = subst (λ cs. 0 < length cs) are_all (chunks_some version bits (held_in chunks))

  -- the last chunk is the root
  pub root_is : (reference : List ℕ) → (0 < length chunks →
      reference ≡ reference_of (get_or chunks (length chunks - 1) [])) →
      reference ≡ root_reference (sha512_cut bits) version (held_in chunks)
  root_is reference is = is some_chunks ∙
      ap (λ cs. reference_of (get_or cs (length cs - 1) [])) (sym are_all) ∙
      ap reference_of (chunks_last version bits (held_in chunks))

  pub record_is : (reference : List ℕ) (count : ℕ) → (0 < length chunks →
      reference ≡ reference_of (get_or chunks (length chunks - 1) [])) → count ≡ length chunks →
      reference ++ to_be_bytes w64 count ≡ ending_for version bits (held_in chunks)
  record_is reference count is n =
      ap (λ r. r ++ to_be_bytes w64 count) (root_is reference is) ∙
      ap (λ k. root_reference (sha512_cut bits) version (held_in chunks) ++ to_be_bytes w64 k)
      (n ∙ ap length (sym are_all) ∙
      length-map (tree_chunks (sha512_cut bits) version (held_in chunks)) (λ c. c.bytes))

  -- so are the bytes behind its letter
  pub taken_record : (reference : List ℕ) (count : ℕ) (record_bytes : List ℕ) →
      (0 < length chunks → reference ≡ reference_of (get_or chunks (length chunks - 1) [])) →
      count ≡ length chunks → record_bytes ≡ 0x45 ∷ (reference ++ to_be_bytes w64 count) →
      take 28 (drop 1 record_bytes) ≡ ending_for version bits (held_in chunks)
  taken_record reference count record_bytes is n e =
      ap (λ bs. take 28 (drop 1 bs)) e ∙ ap (take 28) (record_is reference count is n) ∙
      take_all 28 (ending_for version bits (held_in chunks))
      (omega (arith, ending_long version bits (held_in chunks)))

-- what is wrong behind the letter, where the record is this one
module _ (version : Version) (bits : ℕ) (chunks : List (List ℕ)) (rest more record_bytes : List ℕ)
    (is : record_bytes ≡ ending_for version bits (held_in chunks))
    (decided : (more ≡ []) ⊎ (29 ≤ length rest)) where
  sizes : length (rest ++ more) ≡ length rest + length more
  sizes = length-append rest more

  pub is_cut : length rest < 28 → end_flaw version bits chunks (rest ++ more) ≡ Some Truncated
  is_cut h = cond-true (nat_lt (length (rest ++ more)) 28) _ _ (short decided)
    where
      short : (more ≡ []) ⊎ (29 ≤ length rest) → nat_lt (length (rest ++ more)) 28 ≡ true
      short (inl none) = lt-ltb (length (rest ++ more)) 28 (omega (arith, sizes, ap length none))
      short (inr long) = absurd (omega arith)

  long_enough : 28 ≤ length rest → nat_lt (length (rest ++ more)) 28 ≡ false
  long_enough h = le-ltb (length (rest ++ more)) 28 (omega (arith, sizes))

  same_front : 28 ≤ length rest → take 28 (rest ++ more) ≡ take 28 rest
  same_front h = take-append-le 28 rest more h

  pub is_bad : 28 ≤ length rest → (take 28 rest ≡ record_bytes → ⊥) →
      end_flaw version bits chunks (rest ++ more) ≡ Some BadEnd
  is_bad h other =
      rw (
        long_enough h,
        same_front h,
        sym is,
        false_from_ne_true (bytes_eq (take 28 rest) record_bytes)
            (λ t. other ((bytes_eq-Decides (take 28 rest) record_bytes).0 t)),
      ) refl

  pub is_trailing : 29 ≤ length rest → take 28 rest ≡ record_bytes →
      end_flaw version bits chunks (rest ++ more) ≡ Some Trailing
  is_trailing h same =
      rw (
        long_enough (omega arith),
        same_front (omega arith),
        sym is,
        (bytes_eq-Decides (take 28 rest) record_bytes).1 same,
        lt-ltb 28 (length (rest ++ more)) (omega (arith, sizes)),
      ) refl

  pub is_right : 28 ≤ length rest → length rest < 29 → take 28 rest ≡ record_bytes →
      end_flaw version bits chunks (rest ++ more) ≡ None
  is_right h k same =
      rw (
        long_enough h,
        same_front h,
        sym is,
        (bytes_eq-Decides (take 28 rest) record_bytes).1 same,
        ended decided,
      ) refl
    where
      ended : (more ≡ []) ⊎ (29 ≤ length rest) → nat_lt 28 (length (rest ++ more)) ≡ false
      ended (inl none) = le-ltb 28 (length (rest ++ more)) (omega (arith, sizes, ap length none))
      ended (inr long) = absurd (omega arith)

-- ---- one chunk, as the code has it

-- the keys fall in the chunk
pub keys_fall : (bits : ℕ) (version : Version) (chunks : List (List ℕ)) (chunk : List ℕ)
    (read : ChunksRead) → AreRead chunks read → IsWhole version chunk →
    rises_behind (option_map (λ key. key.items) read.last_key) (pairs_held chunk) ≡ false →
    IsFlawBehind version bits chunks chunk (KeysOutOfOrder read.count)
keys_fall bits version chunks chunk read r w falls = (
  w,
  order_snoc None 0 chunks chunk r.rising ∙
      rw (sym r.last_key, falls, r.count) (let e : 0 + length chunks ≡ length chunks = omega arith in
      ap (λ n. Some (KeysOutOfOrder n)) e),
)

-- the keys rise
pub keys_rise : (chunks : List (List ℕ)) (chunk : List ℕ) (read : ChunksRead) →
    AreRead chunks read →
    rises_behind (option_map (λ key. key.items) read.last_key) (pairs_held chunk) ≡ true →
    order_fault None 0 (map pairs_held (chunks ++ chunk ∷ [])) ≡ None
keys_rise chunks chunk read r rises =
    order_snoc None 0 chunks chunk r.rising ∙ rw (sym r.last_key, rises) refl

-- the last of the chunks
last_of : (chunks : List (List ℕ)) (chunk : List ℕ) →
    get_or (chunks ++ chunk ∷ []) (length (chunks ++ chunk ∷ []) - 1) [] ≡ chunk
last_of [] chunk = refl
last_of (c ∷ []) chunk = refl
last_of (c ∷ d ∷ chunks) chunk =
    let e : length (c ∷ d ∷ (chunks ++ chunk ∷ [])) - 1 ≡
    suc (length (d ∷ (chunks ++ chunk ∷ [])) - 1) = omega arith in
    ap (λ n. get_or (c ∷ d ∷ (chunks ++ chunk ∷ [])) n []) e ∙ last_of (d ∷ chunks) chunk

pub one_read : (chunks : List (List ℕ)) (chunk : List ℕ) (old new : ChunksRead) →
    AreRead chunks old → IsWhole old.follower.version chunk →
    Follows (chunks ++ chunk ∷ []) new.follower → IsAlike old.follower new.follower →
    rises_behind (option_map (λ key. key.items) old.last_key) (pairs_held chunk) ≡ true →
    option_map (λ key. key.items) new.last_key ≡
    last_behind (option_map (λ key. key.items) old.last_key) (pairs_held chunk) →
    new.count ≡ old.count + 1 → new.reference.0 ≡ reference_of chunk →
    AreRead (chunks ++ chunk ∷ []) new
one_read chunks chunk old new r w follows alike rises last count reference = record {
  follows = follows;
  whole = subst (λ v. AreWhole v (chunks ++ chunk ∷ [])) (sym alike.1)
      (whole_snoc old.follower.version chunks chunk r.whole w);
  rising = keys_rise chunks chunk old r rises;
  count = omega (arith, count, r.count, length-append chunks (chunk ∷ []));
  last_key = last ∙ ap (λ l. last_behind l (pairs_held chunk)) r.last_key ∙
      sym (last_append None (held_in chunks) (pairs_held chunk)) ∙
      ap (last_behind None) (sym (held_snoc chunks chunk));
  last = λ some. reference ∙ ap reference_of (sym (last_of chunks chunk));
}

-- ---- the first chunks of a file

-- what was read begins the file of its pairs
follows_begin : (f : Follower) (read : List (List ℕ)) (ending : Option ℕ) →
    FollowsIn f.cut f.version read f.nodes.items f.due.items ending →
    IsPrefix read (bytes_in (all_of f.cut f.version (held_in read)))
follows_begin f read None g =
    let begins = sent_begins f.cut f.version g.leaves [] g.whole in (
      bytes_in f.due.items ++ bytes_in begins.0,
      ap (λ ps. bytes_in (all_of f.cut f.version ps)) (g.held ∙ sym (append-nil (flat g.leaves))) ∙
          ap bytes_in begins.1 ∙ bytes_append (sent_of_leaves f.cut f.version g.leaves) begins.0 ∙
          ap (λ cs. cs ++ bytes_in begins.0) (sym g.sent) ∙
          append_assoc read (bytes_in f.due.items) (bytes_in begins.0),
    )
follows_begin f read (Some from) g =
    (bytes_in f.due.items, ap (λ ps. bytes_in (all_of f.cut f.version ps)) g.held ∙ sym g.sent)

pub may_begin : (read : ChunksRead) (chunks : List (List ℕ)) → AreRead chunks read →
    length (held_in chunks) < 2 ^ 64 →
    MayBegin read.follower.version read.follower.cut chunks
may_begin read chunks r few = record {
  whole = r.whole;
  rising = r.rising;
  first = subst (IsPrefix chunks)
      (ap bytes_in (all_sent read.follower.cut read.follower.version (held_in chunks) few))
      (follows_begin read.follower chunks read.follower.ending r.follows);
}

-- chunks have no more pairs than bytes
few_of : (version : Version) (cs ds : List (List ℕ)) → AreWhole version cs →
    length (flat_map framed (cs ++ ds)) < 2 ^ 64 → length (held_in cs) < 2 ^ 64
few_of version cs ds whole few =
    let fewer = few_in_frames version cs whole in
    let sum = ap length (flat_map-append framed cs ds) ∙
    length-append (flat_map framed cs) (flat_map framed ds) in omega arith

-- fewer chunks have fewer bytes
pub few_part : (chunks taken : List (List ℕ)) (n : ℕ) →
    length (flat_map framed (chunks ++ taken)) < 2 ^ 64 →
    length (flat_map framed (chunks ++ take n taken)) < 2 ^ 64
few_part chunks taken n few =
    let e : chunks ++ taken ≡ (chunks ++ take n taken) ++ drop n taken =
    ap (λ cs. chunks ++ cs) (sym (take-append-drop n taken)) ∙
    sym (append_assoc chunks (take n taken) (drop n taken)) in
    let sum = ap (λ cs. length (flat_map framed cs)) e ∙
    ap length (flat_map-append framed (chunks ++ take n taken) (drop n taken)) ∙
    length-append (flat_map framed (chunks ++ take n taken)) (flat_map framed (drop n taken)) in
    omega arith

-- ---- the first chunks

pub chunks_front : (bytes : List ℕ) (spans : List (Range ℕ)) (n : ℕ) →
    chunks_in bytes (take n spans) ≡ take n (chunks_in bytes spans)
chunks_front bytes spans n = sym (take-map (chunk_in bytes) n spans)

pub flaw_within : (read : ChunksRead) (chunks taken : List (List ℕ)) (n : ℕ) (fault : CheckFault) →
    HasFlaw read chunks (take n taken) fault → HasFlaw read chunks taken fault
flaw_within read chunks taken n fault h = record {
  before = h.before;
  chunk = h.chunk;
  after = h.after ++ drop n taken;
  are = sym (take-append-drop n taken) ∙ ap (λ cs. cs ++ drop n taken) h.are ∙
      append_assoc h.before (h.chunk ∷ h.after) (drop n taken);
  may = h.may;
  flaw = h.flaw;
}

-- ---- one chunk behind others that were taken

module _ (chunks taken : List (List ℕ)) (n : ℕ) (within : n < length taken) where
  abbrev so_far : List (List ℕ)
  so_far = chunks ++ take n taken

  abbrev chunk : List ℕ
  chunk = get_or taken n []

  pub next_is : so_far ++ chunk ∷ [] ≡ chunks ++ take (n + 1) taken
  next_is = append_assoc chunks (take n taken) (chunk ∷ []) ∙
      ap (λ cs. chunks ++ cs) (sym (take_more taken n [] within))

  module _ (few : length (flat_map framed (chunks ++ take (n + 1) taken)) < 2 ^ 64) where
    pub few_before : length (flat_map framed so_far) < 2 ^ 64
    few_before =
        let sum = ap (λ cs. length (flat_map framed cs)) (sym next_is) ∙
        ap length (flat_map-append framed so_far (chunk ∷ [])) ∙
        length-append (flat_map framed so_far) (flat_map framed (chunk ∷ [])) in omega arith

    pub few_next : (version : Version) → AreWhole version so_far → IsWhole version chunk →
        length (held_in (so_far ++ chunk ∷ [])) < 2 ^ 64
    few_next version whole w = few_of version (so_far ++ chunk ∷ []) []
        (whole_snoc version so_far chunk whole w)
        (subst (λ cs. length (flat_map framed cs) < 2 ^ 64) (sym next_is ∙
        sym (append-nil (so_far ++ chunk ∷ []))) few)

  -- what is wrong with the next one is the first flaw of all of them
  pub flaw_next : (old mid : ChunksRead) (fault : CheckFault) →
      length (flat_map framed so_far) < 2 ^ 64 → AreRead so_far mid →
      IsAlike old.follower mid.follower →
      IsFlawBehind mid.follower.version mid.follower.cut so_far chunk fault →
      HasFlaw old chunks taken fault
  flaw_next old mid fault few r alike flaw =
      let held = few_of mid.follower.version so_far [] r.whole
      (subst (λ cs. length (flat_map framed cs) < 2 ^ 64) (sym (append-nil so_far)) few) in
      record {
        before = take n taken;
        chunk = chunk;
        after = drop (suc n) taken;
        are = sym (take-append-drop n taken) ∙
            ap (λ cs. take n taken ++ cs) (drop-cons taken n [] within);
        may = rw (sym alike.0, sym alike.1) (may_begin mid so_far r held);
        flaw = rw (sym alike.0, sym alike.1) flaw;
      }

  -- so is that it is no whole chunk
  pub bad_next : (old mid : ChunksRead) → length (flat_map framed so_far) < 2 ^ 64 →
      AreRead so_far mid → IsAlike old.follower mid.follower →
      IsBroken old.follower.version chunk →
      HasFlaw old chunks taken (BadChunk mid.count)
  bad_next old mid few r alike bad =
      flaw_next old mid (BadChunk mid.count) few r alike (r.count, rw alike.1 bad)

-- ---- the end

pub record_decided : (bytes rest more : List ℕ) → bytes ≡ 0x45 ∷ rest → IsDecided bytes more →
    (more ≡ []) ⊎ (29 ≤ length rest)
record_decided bytes rest more e (inl none) = inl none
record_decided bytes rest more e (inr filled) =
    let enough = filled.enough in inr (omega (arith, ap length e))

-- ---- the bytes behind a header

-- each frame has bytes
pub few_spans : (bytes : List ℕ) (spans : List (Range ℕ)) (offset : ℕ) →
    FramesTo bytes 0 spans offset → length spans ≤ offset
few_spans bytes spans offset f =
    let sum = ap length f.spelled ∙
    length-append (flat_map framed (chunks_in bytes spans)) (drop offset bytes) in
    let reached = f.reached in
    let rest : length (drop offset bytes) ≡ length bytes - offset = length-drop offset bytes in
    let more = each_framed (chunks_in bytes spans) in
    let same = length-map spans (chunk_in bytes) in
    let all : length (drop 0 bytes) ≡ length bytes = refl in
    omega arith
  where
    each_framed : (cs : List (List ℕ)) → length cs ≤ length (flat_map framed cs)
    each_framed [] = omega arith
    each_framed (c ∷ cs) =
        let more = each_framed cs in
        let sum = length-append (framed c) (flat_map framed cs) in
        let one : length (framed c) ≡ 9 + length c =
        length-append (0x43 ∷ to_be_bytes w64 (length c)) c in omega arith

pub no_frame_there : (bytes : List ℕ) (offset : ℕ) → FramesTo bytes 0 [] offset →
    has_no_frame (drop offset bytes) ≡ true → has_no_frame bytes ≡ true
no_frame_there bytes offset f none = ap has_no_frame f.spelled ∙ none

-- so many bytes the frames have with those at hand
body_many : (body bytes left : List ℕ) (old : ChunksRead) (size : ℕ) (spans : List (Range ℕ))
    (offset : ℕ) (b : BodyRead body bytes left old size) → FramesTo bytes 0 spans offset →
    length (flat_map framed (b.chunks ++ chunks_in bytes spans)) ≡ size + offset
body_many body bytes left old size spans offset b f =
    let taken = chunks_in bytes spans in
    let sum = ap length f.spelled ∙ length-append (flat_map framed taken) (drop offset bytes) in
    let reached = f.reached in
    let rest : length (drop offset bytes) ≡ length bytes - offset = length-drop offset bytes in
    let here : length (flat_map framed taken) ≡ offset = omega arith in
    ap length (flat_map-append framed b.chunks taken) ∙
    length-append (flat_map framed b.chunks) (flat_map framed taken) ∙
    ap (λ n. n + length (flat_map framed taken)) b.many ∙ ap (λ n. size + n) here

-- the frames at hand were taken
pub body_goes_on : (body bytes left : List ℕ) (old new : ChunksRead) (size : ℕ)
    (spans : List (Range ℕ)) (offset : ℕ) → BodyRead body bytes left old size →
    FramesTo bytes 0 spans offset →
    ((chunks : List (List ℕ)) → AreRead chunks old →
    length (flat_map framed (chunks ++ chunks_in bytes spans)) < 2 ^ 64 →
    AreRead (chunks ++ chunks_in bytes spans) new) → size + offset < 2 ^ 64 →
    BodyRead body (drop offset bytes) left new (size + offset)
body_goes_on body bytes left old new size spans offset b f over fits =
    let taken = chunks_in bytes spans in
    let many = body_many body bytes left old size spans offset b f in
    record {
      chunks = b.chunks ++ taken;
      spelled = b.spelled ∙ ap (λ bs. flat_map framed b.chunks ++ (bs ++ left)) f.spelled ∙
          ap (λ bs. flat_map framed b.chunks ++ bs)
          (append_assoc (flat_map framed taken) (drop offset bytes) left) ∙
          sym (append_assoc (flat_map framed b.chunks) (flat_map framed taken)
          (drop offset bytes ++ left)) ∙
          ap (λ bs. bs ++ (drop offset bytes ++ left)) (sym (flat_map-append framed b.chunks taken));
      small = all_append IsSmall b.chunks taken b.small f.small;
      are = over b.chunks b.are (omega (arith, many));
      many = many;
    }

-- more bytes were read
pub body_filled : (body bytes left bytes' left' : List ℕ) (read : ChunksRead) (size : ℕ) →
    BodyRead body bytes left read size → bytes ++ left ≡ bytes' ++ left' →
    BodyRead body bytes' left' read size
body_filled body bytes left bytes' left' read size b e = record {
  chunks = b.chunks;
  spelled = b.spelled ∙ ap (λ bs. flat_map framed b.chunks ++ bs) e;
  small = b.small;
  are = b.are;
  many = b.many;
}

-- the first flaw of the frames at hand is that of all bytes
pub body_flaw : (body bytes left : List ℕ) (old : ChunksRead) (size : ℕ) (spans : List (Range ℕ))
    (offset : ℕ) (fault : CheckFault) → BodyRead body bytes left old size →
    FramesTo bytes 0 spans offset → size + offset < 2 ^ 64 →
    ((chunks : List (List ℕ)) → AreRead chunks old →
    length (flat_map framed (chunks ++ chunks_in bytes spans)) < 2 ^ 64 →
    UnlessMemory (HasFlaw old chunks (chunks_in bytes spans)) fault) →
    IsBodyFault old.follower.version old.follower.cut body fault
body_flaw body bytes left old size spans offset fault b f fits over =
    go (over b.chunks b.are (omega (arith, many)))
  where
    many : length (flat_map framed (b.chunks ++ chunks_in bytes spans)) ≡ size + offset
    many = body_many body bytes left old size spans offset b f

    go : UnlessMemory (HasFlaw old b.chunks (chunks_in bytes spans)) fault →
        IsBodyFault old.follower.version old.follower.cut body fault
    go (inl memory) = inl memory
    go (inr h) =
        let smalls = subst (AllByRecursion IsSmall) h.are f.small in
        let behind = flat_map framed h.after ++ (drop offset bytes ++ left) in
        inr (inr (inr (inl (record {
          before = b.chunks ++ h.before;
          chunk = h.chunk;
          rest = behind;
          read = record {
            spelled = b.spelled ∙ ap (λ bs. flat_map framed b.chunks ++ (bs ++ left)) f.spelled ∙
                ap (λ cs. flat_map framed b.chunks ++ ((flat_map framed cs ++ drop offset bytes) ++
                left)) h.are ∙
                ap (λ bs. flat_map framed b.chunks ++ bs)
                (append_assoc (flat_map framed (h.before ++ h.chunk ∷ h.after)) (drop offset bytes)
                left ∙ ap (λ bs. bs ++ (drop offset bytes ++ left))
                (flat_map-append framed h.before (h.chunk ∷ h.after)) ∙
                append_assoc (flat_map framed h.before) (framed h.chunk ++ flat_map framed h.after)
                (drop offset bytes ++ left) ∙
                ap (λ bs. flat_map framed h.before ++ bs)
                (append_assoc (framed h.chunk) (flat_map framed h.after)
                (drop offset bytes ++ left))) ∙
                sym (append_assoc (flat_map framed b.chunks) (flat_map framed h.before)
                (framed h.chunk ++ behind)) ∙
                ap (λ bs. bs ++ (framed h.chunk ++ behind))
                (sym (flat_map-append framed b.chunks h.before));
            small = all_append IsSmall b.chunks h.before b.small
                (all_front IsSmall h.before (h.chunk ∷ h.after) smalls);
            may = h.may;
          };
          small = (all_back IsSmall h.before (h.chunk ∷ h.after) smalls).0;
          flaw = h.flaw;
        }))))

-- whether there is enough to tell
pub decided_of : (is_over : Bool) (bytes left : List ℕ) → (is_over ≡ true → left ≡ []) →
    (is_over ≡ false → IsFilled bytes) → IsDecided bytes left
decided_of true bytes left over filled = inl (over refl)
decided_of false bytes left over filled = inr (filled refl)

no_frame_more : (bytes left : List ℕ) → has_no_frame bytes ≡ true → IsDecided bytes left →
    has_no_frame (bytes ++ left) ≡ true
no_frame_more bytes left none (inl e) =
    ap has_no_frame (ap (λ bs. bytes ++ bs) e ∙ append-nil bytes) ∙ none
no_frame_more [] left none (inr filled) =
    let enough = filled.enough in absurd (omega arith)
no_frame_more (b ∷ bytes) left none (inr filled) =
    let other : (b == 0x43) ≡ false = ne_eqb b 0x43 (filled.decided none) in
    rw other refl

-- the verdict, where no frame is left
pub body_ends : (body bytes left : List ℕ) (read : ChunksRead) (size : ℕ)
    (result : Result (ℕ × Ref) CheckFault) → BodyRead body bytes left read size → size < 2 ^ 64 →
    has_no_frame bytes ≡ true → IsDecided bytes left → EndsChunks read bytes result →
    IsBodyVerdict read.follower.version read.follower.cut body result
body_ends body bytes left read size result b fits none decided ends =
    let held : length (held_in b.chunks) < 2 ^ 64 =
    (let fewer = few_in_frames read.follower.version b.chunks b.are.whole in omega (arith, b.many)) in
    go result (ends b.chunks left b.are held decided) (record {
      spelled = b.spelled;
      small = b.small;
      may = may_begin read b.chunks b.are held;
    }) (no_frame_more bytes left none decided)
  where
    go : (result : Result (ℕ × Ref) CheckFault) →
        EndsAs read.follower b.chunks (flaw_at_end read.follower.version read.follower.cut b.chunks
        (bytes ++ left)) result →
        IsReadTo read.follower.version read.follower.cut body b.chunks (bytes ++ left) →
        has_no_frame (bytes ++ left) ≡ true →
        IsBodyVerdict read.follower.version read.follower.cut body result
    go (Ok end) e r n = record {
      chunks = b.chunks;
      rest = bytes ++ left;
      read = r;
      right = e.0;
      many = e.1;
      root_is = e.2;
    }
    go (Err fault) (inl memory) r n = inl memory
    go (Err fault) (inr flaw) r n = inr (inr (inr (inr (record {
      chunks = b.chunks;
      rest = bytes ++ left;
      read = r;
      none = n;
      is = flaw;
    }))))

-- all bytes are as many as those of the chunks and those at hand
pub body_size : (body bytes left : List ℕ) (read : ChunksRead) (size : ℕ) →
    BodyRead body bytes left read size → size + length bytes ≤ length body
body_size body bytes left read size b =
    omega (
      arith,
      b.many,
      ap length b.spelled,
      length-append (flat_map framed b.chunks) (bytes ++ left),
      length-append bytes left,
    )
