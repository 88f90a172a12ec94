-- What the bytes behind a header tell of the file of a map.
use Rattle.std.proofs.Common.{rules, ◌≡◌, ◌⊎◌, ℕ, zero, suc, ◌<◌, ◌≤◌, ◌^◌, Bool, true}
use Rattle.std.proofs.Common.{false, List, [], ◌∷◌, ◌++◌, length, map, take, drop}
use Rattle.std.proofs.Common.{Some, None, inl, inr, refl, sym, ap, ◌∙◌, subst, arith, cond, nat_lt}
use Rattle.std.proofs.Common.{append_assoc, append-nil, not, ◌==◌, ◌&&◌, ◌-◌, get_or}
use Rattle.std.specs.List.{flat_map, AllByRecursion}
use Rattle.std.specs.Prelude.{slice_index}
use Rattle.std.specs.Str.{bytes_eq}
use Rattle.std.proofs.lemmas.Bool.{le-ltb}
use Rattle.std.proofs.lemmas.List.{length-append, length-drop, map-append, take_all}
use Rattle.std.proofs.lemmas.List.Concat.{flat_map-append}
use Rattle.std.proofs.lemmas.Slice.Eq.{bytes_eq-Decides}
use Rattle.prolly_entry.specs.Cut.{sha512_cut}
use Rattle.prolly_entry.specs.Pair.{Pair}
use Rattle.prolly_entry.specs.Prefix.{IsPrefix}
use Rattle.prolly_entry.specs.Reference.{reference_of}
use Rattle.prolly_entry.specs.declared.version.Version.{Version}
use Rattle.prolly_entry.specs.declared.version.Version.TheVariants.{One, Two}
use Rattle.prolly_entry.specs.lemmas.Lists.{all_append, all_back}
use Rattle.prolly_tree.specs.lemmas.Splits.{flat}
use Rattle.prolly_tree.specs.Chunk.{chunks as tree_chunks}
use Rattle.prolly_tree.specs.File.{header, frame, root_reference}
use Rattle.prolly_io.specs.Frame.{framed, has_no_frame, IsSmall}
use Rattle.prolly_io.specs.FrameLaws.{begins_frame, frames_bytes, one_front}
use Rattle.prolly_io.specs.Header.{header_fault, header_tests, version_of}
use Rattle.prolly_io.specs.declared.format.header.HeaderFault.TheVariants as header_faults
use Rattle.prolly_look_up.specs.Content.{Content, chunk_bytes}
use Rattle.prolly_look_up.specs.Entries.{AreWhole, IsWhole}
use Rattle.prolly_check.specs.FirstFault.{difference, ending_for, order_fault, rises_behind}
use Rattle.prolly_check.specs.FirstFlaw.{IsBodyFault, IsBodyFlaw, IsFlawBehind, IsGoodBody}
use Rattle.prolly_check.specs.FirstFlaw.{IsMapFile, IsStreamFault, end_flaw, flaw_at_end}
use Rattle.prolly_look_up.specs.HeldPairs.{pairs_held}
use Rattle.prolly_check.specs.declared.stream.fault.StreamFault.{StreamFault}
use Rattle.prolly_check.specs.declared.stream.fault.StreamFault.TheVariants as stream
use Rattle.prolly_check.specs.declared.verdict.fault.CheckFault.{CheckFault}
use Rattle.prolly_check.specs.declared.verdict.fault.CheckFault.TheVariants as faults
use Rattle.prolly_check.proofs.CheckedFile.{chunks_last}
use Rattle.prolly_check.specs.lemmas.Sizes.{few_in_frames}
use Rattle.prolly_check.proofs.FollowerSteps.{held_in, whole_lawful}
use Rattle.prolly_check.proofs.HeldPairs.{flat_held}
use Rattle.prolly_look_up.specs.lemmas.HeldPairs.{map_holds}
use Rattle.prolly_check.proofs.OneVerdict.{framed_one}
use Rattle.prolly_check.proofs.RisingKeys.{rises_append, rising_is}
use Rattle.prolly_check.proofs.Verdicts.{all_small, difference_ok, difference_same}
use Rattle.prolly_check.proofs.Verdicts.{ending_long, header_ok, or_none, order_is}
use Rattle.prolly_check.proofs.Verdicts.{unless_none}

-- ---- a good body is that of the file of a map

-- the end record is that of the chunks
record EndsRight (version : Version) (bits : ℕ) (chunks : List (List ℕ)) (rest : List ℕ) : Type 0
  where
    same : chunk_bytes version bits (held_in chunks) ≡ chunks
    is : rest ≡ 0x45 ∷ ending_for version bits (held_in chunks)

right_record : (version : Version) (bits : ℕ) (chunks : List (List ℕ)) (rest : List ℕ) →
    end_flaw version bits chunks rest ≡ None → rest ≡ ending_for version bits (held_in chunks)
right_record version bits chunks rest e =
    let wanted = ending_for version bits (held_in chunks) in
    let longer = cond (nat_lt 28 (length rest)) (Some faults.Trailing) None in
    let a = unless_none (nat_lt (length rest) 28) faults.Truncated _ e in
    let b = unless_none (not (bytes_eq (take 28 rest) wanted)) faults.BadEnd longer a.1 in
    let c = unless_none (nat_lt 28 (length rest)) faults.Trailing None b.1 in
    sym (take_all 28 rest (not_less 28 (length rest) c.0)) ∙
    (bytes_eq-Decides (take 28 rest) wanted).0 (not_not (bytes_eq (take 28 rest) wanted) b.0)
  where
    not_less : (n m : ℕ) → nat_lt n m ≡ false → m ≤ n
    not_less n m e = search rules

    not_not : (b : Bool) → not b ≡ false → b ≡ true
    not_not true e = refl
    not_not false e = cc

right_end : (version : Version) (bits : ℕ) (chunks : List (List ℕ)) (rest : List ℕ) →
    flaw_at_end version bits chunks rest ≡ None → EndsRight version bits chunks rest
right_end version bits chunks [] e = cc
right_end version bits chunks (b ∷ rest) e =
    let first = unless_none (b == 0x43) faults.Truncated _ e in
    let second = unless_none (not (b == 0x45)) (faults.BadFrame (length chunks)) _ first.1 in
    let both = or_none (difference 0 (chunk_bytes version bits (held_in chunks)) chunks)
    (end_flaw version bits chunks rest) second.1 in
    let letter : b ≡ 0x45 = eqb_is b 0x45 (not_false (b == 0x45) second.0) in record {
      same = difference_ok 0 (chunk_bytes version bits (held_in chunks)) chunks both.0;
      is = ap (λ l. l ∷ rest) letter ∙
          ap (λ r. 0x45 ∷ r) (right_record version bits chunks rest both.1);
    }
  where
    not_false : (b : Bool) → not b ≡ false → b ≡ true
    not_false true e = refl
    not_false false e = cc

    eqb_is : (n m : ℕ) → (n == m) ≡ true → n ≡ m
    eqb_is n m e = search rules

-- What is known of a file whose body is good.
pub record GoodFile (bytes : List ℕ) (version : Version) (bits count : ℕ) (root : List ℕ) : Type 0
  where
    pub pairs : List Pair
    pub file : IsMapFile bytes (record { version = version; bits = bits; pairs = pairs })
    pub root_is : root ≡ root_reference (sha512_cut bits) version pairs
    pub many : count ≡ length (chunk_bytes version bits pairs)

pub good_file : (bytes : List ℕ) (count : ℕ) (root : List ℕ) →
    header_fault header_tests bytes ≡ None →
    IsGoodBody (version_of (slice_index bytes 4)) (slice_index bytes 5) (drop 6 bytes) count root →
    GoodFile bytes (version_of (slice_index bytes 4)) (slice_index bytes 5) count root
good_file bytes count root h g =
    let version = version_of (slice_index bytes 4) in
    let bits = slice_index bytes 5 in
    let pairs = held_in g.chunks in
    let head = header_ok bytes h in
    let end = right_end version bits g.chunks g.rest g.right in
    let own = tree_chunks (sha512_cut bits) version pairs in
    let may = g.read.may in
    record {
      pairs = pairs;
      file = record {
        bits = head.bits;
        lawful = whole_lawful version g.chunks may.whole;
        rising = (rising_is pairs).0 (ap (rises_behind None) (sym (flat_held g.chunks)) ∙
            (order_is None 0 (map pairs_held g.chunks)).0 may.rising);
        is = head.is ∙ ap (λ rest. header version bits ++ rest) (g.read.spelled ∙
            ap (λ rest. flat_map framed g.chunks ++ rest) end.is ∙
            ap (λ cs. flat_map framed cs ++ 0x45 ∷ ending_for version bits pairs) (sym end.same) ∙
            ap (λ bs. bs ++ 0x45 ∷ ending_for version bits pairs) (sym (frames_bytes own)));
      };
      root_is = g.root_is;
      many = g.many ∙ ap length (sym end.same);
    }

-- ---- what begins with a header

header_right : (version : Version) (bits : ℕ) → bits ≤ 24 → (rest : List ℕ) →
    header_fault header_tests (header version bits ++ rest) ≡ None
header_right One bits h rest = search rules
header_right Two bits h rest = search rules

version_there : (version : Version) (bits : ℕ) (rest : List ℕ) →
    version_of (slice_index (header version bits ++ rest) 4) ≡ version
version_there One bits rest = refl
version_there Two bits rest = refl

bits_there : (version : Version) (bits : ℕ) (rest : List ℕ) →
    slice_index (header version bits ++ rest) 5 ≡ bits
bits_there One bits rest = refl
bits_there Two bits rest = refl

-- ---- chunks whose frames begin others

framed_front : (cs ds : List (List ℕ)) (x y : List ℕ) → AllByRecursion IsSmall cs →
    AllByRecursion IsSmall ds → has_no_frame y ≡ true →
    flat_map framed cs ++ x ≡ flat_map framed ds ++ y → IsPrefix cs ds
framed_front [] ds x y h k b e = (ds, refl)
framed_front (c ∷ cs) [] x y h k b e =
    absurd (cc (sym b ∙ ap has_no_frame (sym e ∙ append_assoc (framed c) (flat_map framed cs) x) ∙
    begins_frame c (flat_map framed cs ++ x) h.0))
framed_front (c ∷ cs) (d ∷ ds) x y h k b e =
    let p = one_front c d (flat_map framed cs ++ x) (flat_map framed ds ++ y) h.0 k.0
    (sym (append_assoc (framed c) (flat_map framed cs) x) ∙ e ∙
    append_assoc (framed d) (flat_map framed ds) y) in
    let r = framed_front cs ds x y h.1 k.1 b p.rest in
    (r.0, ap (λ z. z ∷ ds) (sym p.front) ∙ ap (λ zs. c ∷ zs) r.1)

-- ---- no flaw of a file of a map

module _ (bytes : List ℕ) (content : Content) (f : IsMapFile bytes content)
    (short : length bytes < 2 ^ 64) where
  abbrev all_chunks : List (List ℕ)
  all_chunks = chunk_bytes content.version content.bits content.pairs

  abbrev ending : List ℕ
  ending = 0x45 ∷ ending_for content.version content.bits content.pairs

  pub body : drop 6 bytes ≡ flat_map framed all_chunks ++ ending
  body = ap (drop 6) f.is ∙
      ap (λ bs. bs ++ ending)
      (frames_bytes (tree_chunks (sha512_cut content.bits) content.version content.pairs))

  long : length (flat_map framed all_chunks ++ ending) < 2 ^ 64
  long = omega (arith, sym (ap length body), length-drop 6 bytes)

  smalls : AllByRecursion IsSmall all_chunks
  smalls = all_small all_chunks ending long

  few : length content.pairs < 2 ^ 64
  few =
      let holds = map_holds content.version content.bits content.pairs f.lawful in
      let fewer = few_in_frames content.version all_chunks holds.whole in
      let sum = length-append (flat_map framed all_chunks) ending in
      let same = ap length holds.are in omega (arith, long)

  abbrev behind : List ℕ
  behind = flat_map frame (tree_chunks (sha512_cut content.bits) content.version content.pairs) ++
      ending

  -- the header has no flaw
  pub no_header_flaw : header_fault header_tests bytes ≡ None
  no_header_flaw = ap (header_fault header_tests) f.is ∙ header_right content.version
      content.bits f.bits behind

  pub its_version : version_of (slice_index bytes 4) ≡ content.version
  its_version = ap (λ bs. version_of (slice_index bs 4)) f.is ∙ version_there
      content.version content.bits behind

  pub its_bits : slice_index bytes 5 ≡ content.bits
  its_bits = ap (λ bs. slice_index bs 5) f.is ∙ bits_there content.version content.bits behind

  no_frame_at_end : has_no_frame ending ≡ true
  no_frame_at_end = refl

  -- no chunk of it has a flaw
  rises_all : order_fault None 0 (map pairs_held all_chunks) ≡ None
  rises_all =
      let holds = map_holds content.version content.bits content.pairs f.lawful in
      (order_is None 0 (map pairs_held all_chunks)).1
      (ap (rises_behind None) (flat_held all_chunks ∙ holds.are) ∙
      (rising_is content.pairs).1 f.rising)

  front_rises : (front back : List (List ℕ)) → all_chunks ≡ front ++ back →
      order_fault None 0 (map pairs_held front) ≡ None
  front_rises front back e =
      (order_is None 0 (map pairs_held front)).1
      (and_left _ _ (sym (rises_append None (flat (map pairs_held front))
      (flat (map pairs_held back))) ∙
      ap (rises_behind None) (sym (flat_map-append (λ l. l) (map pairs_held front)
      (map pairs_held back)) ∙ ap flat (sym (map-append pairs_held front back) ∙
      ap (map pairs_held) (sym e))) ∙ (order_is None 0 (map pairs_held all_chunks)).0 rises_all))
    where
      and_left : (a b : Bool) → (a && b) ≡ true → a ≡ true
      and_left true b h = refl
      and_left false b h = cc

  no_flaw_behind : (before : List (List ℕ)) (chunk : List ℕ) (fault : CheckFault) →
      IsPrefix (before ++ chunk ∷ []) all_chunks →
      IsFlawBehind content.version content.bits before chunk fault → ⊥
  no_flaw_behind before chunk (faults.BadChunk n) p flaw =
      let holds = map_holds content.version content.bits content.pairs f.lawful in
      let w = (all_back (IsWhole content.version) before (chunk ∷ p.0)
      (subst (AreWhole content.version) (p.1 ∙ append_assoc before (chunk ∷ []) p.0) holds.whole)).0 in
      flaw.1 w.pairs w.holds
  no_flaw_behind before chunk (faults.KeysOutOfOrder n) p flaw =
      absurd (cc (sym flaw.1 ∙ front_rises (before ++ chunk ∷ []) p.0 p.1))
  no_flaw_behind before chunk (faults.NotCanonical n) p flaw =
      flaw.4 content.pairs few f.lawful p
  no_flaw_behind before chunk faults.Memory p flaw = flaw
  no_flaw_behind before chunk faults.Read p flaw = flaw
  no_flaw_behind before chunk faults.TooLong p flaw = flaw
  no_flaw_behind before chunk faults.BadHeader p flaw = flaw
  no_flaw_behind before chunk (faults.BadFrame n) p flaw = flaw
  no_flaw_behind before chunk faults.Truncated p flaw = flaw
  no_flaw_behind before chunk faults.Trailing p flaw = flaw
  no_flaw_behind before chunk faults.BadEnd p flaw = flaw
  no_flaw_behind before chunk (faults.Collision n) p flaw = flaw

  -- nor has its end
  right_at_end : (chunks : List (List ℕ)) (rest : List ℕ) → chunks ≡ all_chunks → rest ≡ ending →
      flaw_at_end content.version content.bits chunks rest ≡ None
  right_at_end chunks rest e k =
      let holds = map_holds content.version content.bits content.pairs f.lawful in
      let wanted = ending_for content.version content.bits content.pairs in
      let size = ending_long content.version content.bits content.pairs in
      rw (
        e,
        k,
        holds.are,
        difference_same 0 all_chunks,
        le-ltb (length wanted) 28 (omega (arith, size)),
        take_all 28 wanted (omega (arith, size)),
        (bytes_eq-Decides wanted wanted).1 refl,
        le-ltb 28 (length wanted) (omega (arith, size)),
      ) refl

  pub no_body_flaw : (fault : CheckFault) →
      IsBodyFlaw content.version content.bits (drop 6 bytes) fault → ⊥
  no_body_flaw fault (inl stops) =
      no_flaw_behind stops.before stops.chunk fault
      (framed_front (stops.before ++ stops.chunk ∷ []) all_chunks stops.rest ending
      (all_append IsSmall stops.before (stops.chunk ∷ []) stops.read.small (stops.small, tt)) smalls
      no_frame_at_end
      (ap (λ bs. bs ++ stops.rest) (flat_map-append framed stops.before (stops.chunk ∷ [])) ∙
      ap (λ bs. (flat_map framed stops.before ++ bs) ++ stops.rest) (append-nil (framed stops.chunk)) ∙
      append_assoc (flat_map framed stops.before) (framed stops.chunk) stops.rest ∙
      sym stops.read.spelled ∙ body)) stops.flaw
  no_body_flaw fault (inr ends) =
      let same = framed_one ends.chunks all_chunks ends.rest ending ends.read.small smalls ends.none
      no_frame_at_end (sym ends.read.spelled ∙ body) in
      absurd (cc (sym (right_at_end ends.chunks ends.rest same.chunks same.tail) ∙ ends.is))

  body_fault : (fault : CheckFault) → IsBodyFault content.version content.bits (drop 6 bytes) fault →
      (stream.Check fault ≡ stream.Check faults.Memory) ⊎
      (stream.Check fault ≡ stream.Check faults.Read)
  body_fault fault (inl memory) = inl (ap stream.Check memory)
  body_fault fault (inr (inl read)) = inr (ap stream.Check read)
  body_fault fault (inr (inr (inl long))) =
      let many = long.1 in
      let fewer = length-drop 6 bytes in absurd (omega arith)
  body_fault fault (inr (inr (inr flaw))) = absurd (no_body_flaw fault flaw)

-- a file has one root
one_root : (bytes : List ℕ) (a b : Content) → IsMapFile bytes a → IsMapFile bytes b →
    length bytes < 2 ^ 64 → root_reference (sha512_cut a.bits) a.version a.pairs ≡
    root_reference (sha512_cut b.bits) b.version b.pairs
one_root bytes a b f g short =
    let same = framed_one (all_chunks bytes a f short) (all_chunks bytes b g short)
    (ending bytes a f short) (ending bytes b g short) (smalls bytes a f short) (smalls bytes b g short)
    refl refl (sym (body bytes a f short) ∙ body bytes b g short) in
    ap reference_of (sym (chunks_last a.version a.bits a.pairs)) ∙
    ap (λ cs. reference_of (get_or cs (length cs - 1) [])) same.chunks ∙
    ap reference_of (chunks_last b.version b.bits b.pairs)

-- so by its root it is not refused
pub no_stream_fault : (bytes : List ℕ) (content : Content) (f : IsMapFile bytes content)
    (short : length bytes < 2 ^ 64) (version : Version) (same : content.version ≡ version)
    (root : List ℕ) → root_reference (sha512_cut content.bits) content.version content.pairs ≡ root →
    (fault : StreamFault) → IsStreamFault version root bytes fault →
    (fault ≡ stream.Check faults.Memory) ⊎ (fault ≡ stream.Check faults.Read)
no_stream_fault bytes content f short version same root is (stream.Check fault) (inl memory) =
    inl (ap stream.Check memory)
no_stream_fault bytes content f short version same root is (stream.Check fault) (inr (inl read)) =
    inr (ap stream.Check read)
no_stream_fault bytes content f short version same root is (stream.Check fault) (inr (inr flaw)) =
    let h = rw (no_header_flaw bytes content f short) at flaw in
    body_fault bytes content f short fault (rw (same, sym (its_bits bytes content f short)) h.1)
no_stream_fault bytes content f short version same root is stream.Version h =
    absurd (h.1 (its_version bytes content f short ∙ same))
no_stream_fault bytes content f short version same root is stream.OtherRoot h =
    absurd (h.other (ap (λ v. root_reference (sha512_cut h.content.bits) v h.content.pairs)
    (sym h.same) ∙ one_root bytes h.content content h.file f short ∙ is))

-- ---- of bytes that came in two parts

module _ (all bytes left : List ℕ) (e : all ≡ bytes ++ left) (room : 6 ≤ length bytes) where
  header_of : header_fault header_tests bytes ≡ None → header_fault header_tests all ≡ None
  header_of h = ap (header_fault header_tests) e ∙ go header_tests bytes room h
    where
      go : (tests : List (ℕ → Bool)) (bs : List ℕ) → length tests ≤ length bs →
          header_fault tests bs ≡ None → header_fault tests (bs ++ left) ≡ None
      go [] bs h k = refl
      go (test ∷ tests) [] h k = cc
      go (test ∷ tests) (b ∷ bs) h k = one (test b) k (go tests bs (omega arith))
        where
          one : (t : Bool) → cond t (header_fault tests bs) (Some header_faults.BadByte) ≡ None →
              (header_fault tests bs ≡ None → header_fault tests (bs ++ left) ≡ None) →
              cond t (header_fault tests (bs ++ left)) (Some header_faults.BadByte) ≡ None
          one true k more = more k
          one false k more = cc

  byte_of : (n : ℕ) → n < 6 → slice_index all n ≡ slice_index bytes n
  byte_of n h = ap (λ bs. slice_index bs n) e ∙ there bytes n (omega (arith, room))
    where
      there : (bs : List ℕ) (n : ℕ) → n < length bs → slice_index (bs ++ left) n ≡ slice_index bs n
      there [] n h = absurd (omega arith)
      there (b ∷ bs) zero h = refl
      there (b ∷ bs) (suc n) h = there bs n (omega arith)

  body_of : drop 6 all ≡ drop 6 bytes ++ left
  body_of = ap (drop 6) e ∙ there bytes 6 room
    where
      there : (bs : List ℕ) (n : ℕ) → n ≤ length bs → drop n (bs ++ left) ≡ drop n bs ++ left
      there bs zero h = refl
      there [] (suc n) h = absurd (omega arith)
      there (b ∷ bs) (suc n) h = there bs n (omega arith)

  module _ (version : Version) (bits : ℕ) (none : header_fault header_tests bytes ≡ None)
      (v : version ≡ version_of (slice_index bytes 4)) (b : bits ≡ slice_index bytes 5) where
    is_version : version_of (slice_index all 4) ≡ version
    is_version = ap version_of (byte_of 4 (omega arith)) ∙ sym v

    is_bits : slice_index all 5 ≡ bits
    is_bits = byte_of 5 (omega arith) ∙ sym b

    pub refused_body : (root : List ℕ) (fault : CheckFault) →
        IsBodyFault version bits (drop 6 bytes ++ left) fault →
        IsStreamFault version root all (stream.Check fault)
    refused_body root fault h =
        inr (inr (rw (header_of none) (is_version, rw (is_bits, body_of) h)))

    pub good_body : (count : ℕ) (root : List ℕ) →
        IsGoodBody version bits (drop 6 bytes ++ left) count root →
        GoodFile all version bits count root
    good_body count root g =
        rw (sym is_version, sym is_bits) (good_file all count root (header_of none)
        (rw (is_version, is_bits, body_of) g))
